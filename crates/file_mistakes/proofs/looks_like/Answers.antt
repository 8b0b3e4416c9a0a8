-- An empty file, or one with a first byte; a mistake's number is its place among the mistakes, counted from 1.
use Rattle.std.proofs.Common.{rules, ◌≡◌, refl, sym, ap, ◌∙◌, ◌+◌}
use denote.Enum.Declared.{tag_of}
use Rattle.file_mistakes.specs.contracts.Mistake.{the_type}
use Rattle.file_mistakes.specs.declared.Mistake.{Mistake}
use Rattle.file_mistakes.specs.declared.Mistake.TheVariants.{Empty, OrderMark, Wide, Small, Other}
use Rattle.file_mistakes.specs.Mistakes.{number_of, looks_like}
use Rattle.file_mistakes.proofs.Mistakes.Laws.{looks-none, looks-some}
use Rattle.file_mistakes.proofs.looks_like.Goals as goal
use Rattle.file_mistakes.proofs.looks_like.Goals.{then-is_empty, else-is_empty}

numbered : (m : Mistake) → tag_of the_type m + 1 ≡ number_of m
numbered Empty = refl
numbered OrderMark = refl
numbered Wide = refl
numbered Small = refl
numbered Other = refl

pub returns : goal.returns
returns c =
    let file = c.args.file.now in
    numbered _ ∙ elim c.if-is_empty.branch [
      | then-is_empty w ↦ ap number_of w.mistake-is ∙ sym (looks-none file (search rules))
      | else-is_empty w ↦
          ap number_of w.mistake-is ∙ (let e : number_of w.mistake_of-mistake.result ≡ looks_like file = cc (looks-some file (search rules)) in e)
    ]
