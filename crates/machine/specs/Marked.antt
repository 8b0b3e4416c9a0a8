-- Document 01's marked cases a to l, i and j as request 5/13 of document 02 has them, and that request's own case m, one table.
-- n = 3 unless said; the set {0, 2} is the word 5, and so on.
-- `Marked.Proof` proves the whole table by computing the definitions.
use Rattle.std.specs.Prelude.{◌≡◌, [], ◌∷◌, ◌-◌, ◌^◌}
use Rattle.attribute_set.specs.Sets.{full}
use Rattle.implication.specs.Closure.{implication, closure}
use Rattle.next_set.specs.Next.{next}
use Rattle.context.specs.Objects.{object}
use Rattle.reach.specs.Reach.{reach}
use Rattle.machine.specs.Checks.{Lent, State, reach_of}
use Rattle.machine.specs.Machine.{step, accept, reject, finished, asked, refused, perform, opening, opened, opening_state}

-- all places lent, and one background implication
abbrev pub lent : Lent
lent = record { rows = 1024; list = 512; background = 2 }

-- background {0,1} → {2}, a row yes {0}, no {2}, current set {0}
abbrev pub state_i : State
state_i = record { n = 3; lent = lent; background = implication 3 4 ∷ []; rows = object 1 4 ∷ []; list = []; current = 1 }

-- n = 1, background {} → {0}
abbrev pub state_k : State
state_k = opening_state 1 lent (implication 0 1 ∷ []) []

-- n = 4, background {0,1,2} → {3}, a row yes {0}, no {3}, current set {0}
abbrev pub state_m : State
state_m = record { n = 4; lent = lent; background = implication 7 8 ∷ []; rows = object 1 8 ∷ []; list = []; current = 1 }

pub record Marked : Type 0 where
  -- no rules, closure of {0}
  pub a : closure [] 1 ≡ 1
  -- {0} → {1}, {1} → {2}, closure of {0}
  pub b : closure (implication 1 2 ∷ implication 2 4 ∷ []) 1 ≡ 7
  -- no rows, reach of {}
  pub c : reach [] 3 [] 0 ≡ 7
  -- row yes {0}, no {2}: reach of {0}, then of {1}
  pub d : reach [] 3 (object 1 4 ∷ []) 1 ≡ 3
  pub e : reach [] 3 (object 1 4 ∷ []) 2 ≡ 7
  -- no rules: next after {}, then after {1,2}
  pub f : next [] 3 0 ≡ 4
  pub g : next [] 3 6 ≡ 1
  -- {2} → {1}, {0} → {1}: next after {0}
  pub h : next (implication 4 2 ∷ implication 1 2 ∷ []) 3 1 ≡ 3
  -- the row lacks 1 by what is in force, so that {0} is its own reach: a yes is refused with 8
  pub i : (perform state_i accept).answer ≡ refused (record { number = 8; place = 0 })
  -- and so is a no with yes {0}, no {1}
  pub j : (perform state_i (reject (object 1 2))).answer ≡ refused (record { number = 8; place = 0 })
  pub j_reach : reach_of state_i ≡ 1
  -- Finished at the opening
  pub k_opened : opening 1 lent (implication 0 1 ∷ []) [] ≡ opened state_k
  pub k_finished : (perform state_k step).answer ≡ finished
  -- n = 64, no rules: next after {0..62}
  pub l : next [] 64 (2 ^ 63 - 1) ≡ full 64
  -- the question is {0} → {1, 2}, of which the row lacks neither: a yes is refused with 11, place 0
  pub m_asked : (perform state_m step).answer ≡ asked (implication 1 6)
  pub m : (perform state_m accept).answer ≡ refused (record { number = 11; place = 0 })
