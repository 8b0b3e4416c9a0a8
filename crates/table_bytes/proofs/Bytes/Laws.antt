-- The marks of 01 as computed cases.
use Rattle.std.specs.Prelude.{◌≡◌, refl, true, false, ◌&&◌, ◌||◌}
use Rattle.table_bytes.specs.Bytes.{is_yes, is_no, is_mark}

-- 01's marks, computed: `X`, `x`, `.`, `?`, and a space, which is none
marks : (is_yes 88 && is_yes 120 ≡ true)
    × (is_no 46 ≡ true)
    × (is_yes 63 || is_no 63 ≡ false)
    × (is_mark 63 ≡ true)
    × (is_mark 32 ≡ false)
marks = (refl, refl, refl, refl, refl)
