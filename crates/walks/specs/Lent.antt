-- What the walks are over: a struct of plain data that is lent, and what a call gives back, an answer, the record and whether the record
-- changed. The answer is a struct, in the functions for C, or an enum.
-- A declared type has to be covered by its fields' values. What a call gives back is its fields (`one`), so it is: covered-prop shows
-- that a tuple of values is at most one value's, since the three fields' values are a set (three-set).
use Rattle.std.specs.Prelude.{◌≡◌, refl, Bool, [], ◌∷◌}
use Rattle.std.proofs.Common.{ap, sym, ◌∙◌}
use mathlib.Core.Bool.{Bool-set}
use mathlib.Core.HLevel.{is_prop→PathP}
use mir.Syntax.{Sym}
use base.Stored.{Coded-set}
use denote.RattleType.{Denots}
use denote.Struct.Cover.{Cover}
use denote.Struct.Field.{rows, bool-field}
use denote.Struct.Declared.{Declared, fields, field, row}
use denote.Struct.Struct.{Plains}
use denote.Struct.Laws as LL
use denote.Enum.Declared as ED
use denote.Enum.Enum.{Plainss}

pub record Lendable : Type 2 where
  pub type : Declared
  pub laws : LL.Laws type
  pub plain : Plains (fields type)
  pub copies : LL.Copyables type.parts
  pub lowers : LL.Lowered type

abbrev pub as_field : (T : Lendable) → LL.FLaws (field T.type)
as_field T = LL.field_laws T.type T.laws T.lowers

-- a type, covered by its fields' values: the ghost says whose values they are
abbrev pub covered : {D A : Type 0} (values : D → A) → Cover D A values
covered {D} values = record { Ghost = λ v. (d : D) × (values d ≡ v); ghosts = λ d. (d, refl); make = λ v g. g.0; eta = λ d. refl; beta = λ v g. g.1 }

pub covered-prop : {D A : Type 0} (values : D → A) → ((x y : A) → IsProp (x ≡ y)) → ((x y : D) → values x ≡ values y → x ≡ y)
    → (v : A) → IsProp ((covered values).Ghost v)
covered-prop values set one v p q i =
    let same = one p.0 q.0 (p.1 ∙ sym q.1) in (same i, is_prop→PathP (λ j. values (same j) ≡ v) (λ j. set (values (same j)) v) p.1 q.1 i)

-- an answer, a record and a test are a set where each is
pub three-set : {A B : Type 0} → ((x y : A) → IsProp (x ≡ y)) → ((x y : B) → IsProp (x ≡ y)) → (x y : A × (B × (Bool × Unit {0}))) → IsProp (x ≡ y)
three-set a b x y p q i j = (
  a x.0 y.0 (λ k. (p k).0) (λ k. (q k).0) i j,
  (
    b x.1.0 y.1.0 (λ k. (p k).1.0) (λ k. (q k).1.0) i j,
    (Bool-set x.1.1.0 y.1.1.0 (λ k. (p k).1.1.0) (λ k. (q k).1.1.0) i j, tt),
  ),
)

-- a struct of an answer, a record and a test; `one`: it is its fields
pub record Turned (N T : Lendable) : Type 1 where
  pub name : Sym
  pub D : Type 0
  pub answer : D → N.type.D
  pub kept : D → T.type.D
  pub changed : D → Bool
  pub one : (x y : D) → ◌≡◌ {A = Denots (rows (field N.type ∷ field T.type ∷ bool-field ∷ []))}
      (N.type.to (answer x), (T.type.to (kept x), (changed x, tt))) (N.type.to (answer y), (T.type.to (kept y), (changed y, tt))) → x ≡ y

abbrev pub turn : {N T : Lendable} → Turned N T → Declared
turn {N} {T} S = record {
  name = S.name;
  args = [];
  types = [];
  parts = field N.type ∷ field T.type ∷ bool-field ∷ [];
  D = S.D;
  to = λ d. (N.type.to (S.answer d), (T.type.to (S.kept d), (S.changed d, tt)));
  to_one = S.one;
  as_values = λ d. (S.answer d, (S.kept d, (S.changed d, tt)));
  to_is = λ d. refl;
  cover = covered (λ (d : S.D). (S.answer d, (S.kept d, (S.changed d, tt))));
  propositions = covered-prop (λ (d : S.D). (S.answer d, (S.kept d, (S.changed d, tt)))) (three-set (Coded-set (row N.type).coded) (Coded-set (row T.type).coded))
      (λ x y e. S.one x y (ap (λ (v : N.type.D × (T.type.D × (Bool × Unit {0}))). (N.type.to v.0, (T.type.to v.1.0, (v.1.1.0, tt)))) e));
}

abbrev pub turn_laws : {N T : Lendable} (S : Turned N T) → LL.Laws (turn S)
turn_laws {N} {T} S = (as_field N, (as_field T, (LL.bool-laws, tt)))

-- the same with an enum for the answer
pub record Enumerated : Type 2 where
  pub type : ED.Declared
  pub plain : Plainss (ED.variants type)
  pub as_field : LL.FLaws (ED.field type)

pub record TurnedEnum (N : Enumerated) (T : Lendable) : Type 1 where
  pub name : Sym
  pub D : Type 0
  pub answer : D → N.type.D
  pub kept : D → T.type.D
  pub changed : D → Bool
  pub one : (x y : D) → ◌≡◌ {A = Denots (rows (ED.field N.type ∷ field T.type ∷ bool-field ∷ []))}
      (N.type.to (answer x), (T.type.to (kept x), (changed x, tt))) (N.type.to (answer y), (T.type.to (kept y), (changed y, tt))) → x ≡ y

abbrev pub enum_turn : {N : Enumerated} {T : Lendable} → TurnedEnum N T → Declared
enum_turn {N} {T} S = record {
  name = S.name;
  args = [];
  types = [];
  parts = ED.field N.type ∷ field T.type ∷ bool-field ∷ [];
  D = S.D;
  to = λ d. (N.type.to (S.answer d), (T.type.to (S.kept d), (S.changed d, tt)));
  to_one = S.one;
  as_values = λ d. (S.answer d, (S.kept d, (S.changed d, tt)));
  to_is = λ d. refl;
  cover = covered (λ (d : S.D). (S.answer d, (S.kept d, (S.changed d, tt))));
  propositions = covered-prop (λ (d : S.D). (S.answer d, (S.kept d, (S.changed d, tt)))) (three-set (Coded-set (ED.row N.type).coded) (Coded-set (row T.type).coded))
      (λ x y e. S.one x y (ap (λ (v : N.type.D × (T.type.D × (Bool × Unit {0}))). (N.type.to v.0, (T.type.to v.1.0, (v.1.1.0, tt)))) e));
}

abbrev pub enum_turn_laws : {N : Enumerated} {T : Lendable} (S : TurnedEnum N T) → LL.Laws (enum_turn S)
enum_turn_laws {N} {T} S = (N.as_field, (as_field T, (LL.bool-laws, tt)))
