-- Names that held addresses can have: below 65,536, the greatest P, and each there once. Assumes nothing.
use Rattle.std.specs.Prelude.{Bool, ◌&&◌, List, ℕ, ltb}
use Rattle.tables.specs.Find.{all}
use Rattle.tables.specs.Sound.{distinct}

abbrev pub possible : ℕ → Bool
possible x = ltb x 65536

unfoldable pub fine : List ℕ → Bool
fine names = all possible names && distinct names
