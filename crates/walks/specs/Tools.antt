-- The names that the walks use, in one place.
pub use Rattle.std.specs.Prelude.{refl, [], ◌∷◌}
pub use seplogic.Ra.Ura.{Ura}
pub use mir.Syntax.{Callee, Fn, named, erased, mut, imm, w8, w64, place, opd_unit, rv_opd, seq, assign, call, cond, skip, return}
pub use base.Logic.{ent, emp}
pub use base.Fml.{flft}
pub use prog.Wp.{Heap, Calls, Loops, WpFn, Tables}
pub use ghost.Atoms.{Atoms}
pub use contract.Lifetimes.{Lfts, Shares, toks}
pub use types.Kit.{‵, raw, ◌⊛◌, ◌$◌, ◌∵◌, !, qed, move, drop, fjoin, suffices, use1}
pub use types.Run.{look, init, stop, hop, fld, from, addr, of_opd, unit_lit, and_then, no_more, land, returns, enter, alloc1, alloc0, params1, pass1, pass0, free0}
pub use types.Part.{agg, whole, sub, look_in}
pub use sound.WpLaws.{FmC, fm_of}
pub use denote.RattleType.{owns}
pub use denote.Laws.{Is, Spells, valss, shows}
pub use Rattle.std.specs.Borrow.{u8, u64, unit}
pub use denote.Plain.{uint_vals, uint_Tells, uint_Lawful}
pub use denote.Ref.{shr_vals, mut_vals, mut_Tells}
pub use denote.Slice.{shr_slice_vals, mut_slice_vals, shr_slice_Tells, shr_slice_Lawful, mut_slice_Tells, mut_slice_Lawful}
pub use denote.Signature.{types_at, plain}
pub use denote.Steps.{owned, peeks}
pub use denote.Struct.Declared.{row}
pub use denote.Triple.Clauses.{Clauses, Lasts, at_exit, closing}
pub use denote.Triple.Entry.{Args, Vals}
pub use denote.Triple.Spec.{Meets}
pub use denote.Triple.Statement.{Triple}
pub use denote.Triple.Walked.{ends_at}
pub use Rattle.walks.specs.Walks.{all_told, Agreed, Walk, meets, called, landed, copied, field-of, sets, freed}
pub use Rattle.session.specs.Choice.{chosen}
pub use Rattle.walks.specs.Behind.{loads, reads, stores, stores-whole, stores-if}
pub use Rattle.walks.specs.Calls.{words_of, apart, apart-shared, apart-last, apart-alone, apart-shared-alone, given_back, given-back-shared, given-back-last, given-back-alone, given-back-shared-alone}
pub use Rattle.walks.specs.Lent.{Lendable, Turned, turn, turn_laws, Enumerated, TurnedEnum, enum_turn, enum_turn_laws}
pub use Rattle.walks.specs.Code.{nothing, variants, function, lent_struct, struct, slice_of, words, bytes, word, pointer_to, pointer, flag, whole_of, reads_struct, takes_address_of, takes_address, makes_slice, takes_field, stores_field, stores_local}
pub use Rattle.walks.specs.Params.{mut_struct, shr_struct, own_struct, mut_slice, shr_slice, number}
pub use Rattle.walks.specs.Passing.{behind_first, before_last, between, Passing, lent, callee, held, parts_in, said_out, sent, Walks, Passes, passes, ends}
