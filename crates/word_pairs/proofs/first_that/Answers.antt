-- What `position` finds among the whole pairs is the first that passes; where it finds none, none does.
use Rattle.std.proofs.Common.{true, false, arith, rules}
use Rattle.std.proofs.lemmas.Iterator.{IsFirst-from_position, YieldsList-from_slice}
use Rattle.std.proofs.lemmas.Option.{MatchOption-at_some, MatchOption-at_none}
use Rattle.word_pairs.proofs.Found.{Gives, none-found, first-found}
use Rattle.word_pairs.proofs.first_that.Goals as goal

pub returns-in-Some : goal.returns-in-Some
returns-in-Some g c =
    let a = c.args in
    let test = g.T.PairTest.passes a.by.now in
    let pairs = c.as_chunks.ensures in
    let found = IsFirst-from_position _ _ _ (Gives test true) (Gives test false) c.position.ensures.ran (YieldsList-from_slice _ c.iter.ensures.rest)
    (λ x q k. search rules) (λ x q k. search rules) in
    first-found test a.words.now _ pairs.front a.count c.min.result (omega (arith, c.min.ensures, pairs.front_len)) c.in-Some.place
    (MatchOption-at_some _ _ _ c.in-Some.is found)

pub returns-in-None : goal.returns-in-None
returns-in-None g c =
    let a = c.args in
    let test = g.T.PairTest.passes a.by.now in
    let pairs = c.as_chunks.ensures in
    let found = IsFirst-from_position _ _ _ (Gives test true) (Gives test false) c.position.ensures.ran (YieldsList-from_slice _ c.iter.ensures.rest)
    (λ x q k. search rules) (λ x q k. search rules) in
    none-found test a.words.now _ pairs.front a.count c.min.result (omega (arith, c.min.ensures, pairs.front_len)) (MatchOption-at_none _ _ c.in-None.is found)
