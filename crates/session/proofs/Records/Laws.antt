-- Records that are the same number for number are equal (`same-equal`).
use Rattle.std.specs.Prelude.{◌≡◌, refl, Bool, true, false, ◌&&◌}
use Rattle.std.proofs.Common.{sym, true≢false, eqb-true}
use Rattle.session.specs.declared.Session.{Session}
use Rattle.session.specs.Records.{same_session}

both_true : (a b : Bool) → (a && b) ≡ true → (a ≡ true) × (b ≡ true)
both_true true b e = (refl, e)
both_true false b e = absurd (true≢false (sym e))

pub same-equal : (a b : Session) → same_session a b ≡ true → a ≡ b
same-equal a b e =
    let n = both_true _ _ e in
    let rows = both_true _ _ n.1 in
    let rules = both_true _ _ rows.1 in
    λ i. record {
      n = eqb-true a.n b.n n.0 i;
      rows = eqb-true a.rows b.rows rows.0 i;
      rules = eqb-true a.rules b.rules rules.0 i;
      current = eqb-true a.current b.current rules.1 i;
    }
