-- What is handed over part by part: nothing at first (`hands_none`), and with each part what the parts have together (`hands_on`). A text
-- that fits stands in the buffer whole, and all of it was handed over (`writes-whole`).
use Rattle.std.specs.Prelude.{◌≡◌, refl, List, Bool, true, false, ℕ, ◌+◌, ◌≤◌, length, take}
use Rattle.std.proofs.Common.{sym, ap, ◌∙◌, subst, true≢false, arith}
use Rattle.text.specs.Page.{Page, page, text}
use Rattle.text.proofs.Page.Laws.{text-inside, text-length, text_at, text-fits}
use Rattle.handed_output.specs.declared.Handed.{Handed}
use Rattle.handed_output.specs.declared.Told.{Told}
use Rattle.handed_output.specs.Handing.{untold, most_counted, HandsOver, Hands, WritesIn}

pub hands_none : (h : Handed) → Hands h 0 h
hands_none h = record { all = λ e. omega arith; within = omega arith }

-- the part from the offset that was reached to a later one
pub hands_on : (h m r : Handed) (at end size : ℕ) → at ≤ end → end ≤ size → h.bytes + size ≤ most_counted → Hands h at m → HandsOver size at end m r
    → Hands h end r
hands_on h m r at end size le in_size fits before part = go m.whole refl
  where
    go : (b : Bool) → m.whole ≡ b → Hands h end r
    go true e =
        let s = before.all e in
        let t = part.on e le in_size (omega (arith, before.within, le, in_size, fits)) in
        record { all = λ f. t ∙ omega (arith, s, le); within = omega (arith, s, t, le) }
    go false e =
        let same = part.ended e in
        record {
          all = λ f. absurd (true≢false (sym f ∙ ap (λ (x : Handed). x.whole) same ∙ e));
          within = let t : r.bytes ≡ m.bytes = ap (λ (x : Handed). x.bytes) same in omega (arith, before.within, t, le);
        }

-- a text that was written from the start of the buffer lies in it
pub text-shown : (out out' : List ℕ) (r : ℕ) (bs : List ℕ) → page out' r ≡ text (page out 0) bs → (r ≤ length out) × (r ≤ length out')
text-shown out out' r bs e =
    let w = text-inside (page out 0) bs (omega arith) in
    let at = ap (λ (p : Page). p.at) e in
    (omega (arith, w.1, at), omega (arith, w.1, at, ap (λ (p : Page). length p.bytes) e ∙ text-length (page out 0) bs))

-- and the buffer keeps its length
pub text-kept : (out out' : List ℕ) (r : ℕ) (bs : List ℕ) → page out' r ≡ text (page out 0) bs → length out' ≡ length out
text-kept out out' r bs e = ap (λ (p : Page). length p.bytes) e ∙ text-length (page out 0) bs

-- what was written from the start of the buffer, handed over in one part
pub hands-text : (h r : Handed) (out out' : List ℕ) (end : ℕ) (bs : List ℕ) → page out' end ≡ text (page out 0) bs → HandsOver (length out') 0 end h r
    → h.bytes + length out ≤ most_counted → Hands h end r
hands-text h r out out' end bs e part fits =
    hands_on h h r 0 end (length out') (omega arith) (text-shown out out' end bs e).1 (omega (arith, text-kept out out' end bs e, fits)) (hands_none h) part

-- a text that fits: the offset behind it is its length
text-end-at : (out out' : List ℕ) (r : ℕ) (bs : List ℕ) → page out' r ≡ text (page out 0) bs → length bs ≤ length out → r ≡ length bs
text-end-at out out' r bs e h = ap (λ (p : Page). p.at) e ∙ text_at (page out 0) bs (omega (arith, h)) ∙ omega arith

text-whole : (out out' : List ℕ) (r : ℕ) (bs : List ℕ) → page out' r ≡ text (page out 0) bs → length bs ≤ length out → take r out' ≡ bs
text-whole out out' r bs e h =
    let at : r ≡ 0 + length bs = text-end-at out out' r bs e h ∙ omega arith in
    ap (λ (k : ℕ). take k out') at ∙ ap (λ (p : Page). take (0 + length bs) p.bytes) e ∙ text-fits (page out 0) bs (omega (arith, h))

pub writes-whole : (out out' : List ℕ) (r : Told) (bs : List ℕ) → page out' r.end ≡ text (page out 0) bs
    → (untold.bytes + length out ≤ most_counted → Hands untold r.end r.handed)
    → length bs ≤ length out → length out ≤ most_counted → WritesIn out out' r bs
writes-whole out out' r bs e hands fits counted = record {
  put = e;
  written = text-whole out out' r.end bs e fits;
  handed = subst (λ (k : ℕ). Hands untold k r.handed) (text-end-at out out' r.end bs e fits) (hands (omega (arith, counted)));
}
