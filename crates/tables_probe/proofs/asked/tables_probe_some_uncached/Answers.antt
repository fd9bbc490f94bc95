-- No row is the newest of none. Assumes nothing.
use Rattle.std.proofs.Common.{◌≡◌, ℕ, Bool, true, false, List, refl, arith}
use Rattle.std.proofs.lemmas.Grind.{common_steps}
use mir.Val.{bool_byte}
use Rattle.tables.specs.Rows.{rows}
use Rattle.tables.specs.Find.{all}
use Rattle.tables.specs.Sound.{mark}
use Rattle.tables.specs.Index.{cached_in}
use Rattle.tables_probe.specs.Probe.{if_sound}
use Rattle.tables_probe.proofs.Answers.{blank}
use Rattle.tables_probe.proofs.asked.tables_probe_some_uncached.Goals as goal

-- of none, all are cached
none-held : (p : List ℕ → Bool) (t : List ℕ) (n : ℕ) → n ≡ 0 → all p (rows n t) ≡ true
unfolding rows all
none-held p t n e = rw e refl

is-mark : (b : Bool) → bool_byte b ≡ mark b
is-mark true = refl
is-mark false = refl

pub passed-requires : goal.passed-requires
passed-requires c = blank

pub returns : goal.returns
unfolding if_sound
returns c =
    let a = c.args in
    grind (arith, common_steps, is-mark c.if-n-ne0.from, none-held (cached_in (rows a.d a.blocks.now)) a.addresses.now)
