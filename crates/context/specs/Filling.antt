-- Marks that become known (02, request 7/13, "Fill in an unknown mark"): an object (01: a row) with marks added, when added marks would reverse
-- one that is known, and a list of objects with one of them filled. Known marks are the written ones.
use Rattle.std.specs.Prelude.{Bool, ◌||◌, List, ℕ, get_or, set}
use Rattle.std.specs.Int.Bits.{bit_or}
use Rattle.attribute_set.specs.Sets.{meets}
use Rattle.context.specs.Objects.{Object, object}

-- o with the marks of m added: a mark that is known already may stand in m again
abbrev pub joined : Object → Object → Object
joined o m = object (bit_or o.yes_marks m.yes_marks) (bit_or o.no_marks m.no_marks)

-- with the marks of m a yes of o would become a no, or a no of o a yes
unfoldable pub reverses : Object → Object → Bool
reverses o m = meets o.yes_marks m.no_marks || meets o.no_marks m.yes_marks

-- the object at the place k (01: row k); one without marks where the list has none there
abbrev pub object_at : List Object → ℕ → Object
object_at os k = get_or os k (object 0 0)

-- the list with the marks of m added to the object at k; as it is where it has none there
unfoldable pub filled_at : ℕ → Object → List Object → List Object
filled_at k m os = set os k (joined (object_at os k) m)
