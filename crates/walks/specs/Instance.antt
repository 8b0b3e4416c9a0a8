-- The names that an instance of a walk uses, in one place.
pub use base.Logic.{id⊢}
pub use contract.Fact.{fact_mono}
pub use contract.Running.{tables}
pub use denote.Triple.Spec.{triple_of}
pub use denote.Triple.Table.{entered, cited}
