-- REPLACE, MANAGE, CHECK and the loop: what they keep, what they do to the sizes, and that the loop ends with a row.
use Rattle.std.specs.Prelude.{◌≡◌, Bool, true, not, ◌&&◌, ◌||◌, eqb, leb, ltb, drop}
use Rattle.std.proofs.Math.Path.{refl, ap, subst}
use Rattle.std.proofs.Common.{sym, ◌∙◌, true≢false, arith, length-append}
use Rattle.std.proofs.Math.Bool.{false}
use mathlib.Core.List.{List, [], ◌∷◌, ◌++◌}
use Prim.Native.Nat.{ℕ, zero, suc, ◌+◌, ◌≤◌}
use Rattle.std.proofs.Math.ListN.{length, take}
use borrow.Author.Tests.{leb-true, leb-false, ltb-true, ltb-false, eqb-true, eqb-false, not-true}
use Rattle.paper.specs.Cache.{Hashing, AddressRow, BlockRow, Box, Stepped, oldest_unknown}
use Rattle.paper.specs.KeyedLaws.{by-test, clash, and_left, and_right}
use Rattle.paper.specs.Sound.{Sound}
use Rattle.paper.proofs.SoundLaws.{some-slot}
use Rattle.arc.specs.Policy.{Ran}
use Rattle.arc.specs.Arc.{Sizes, base_numbers, Lists, is_nil, is_in, on_top, top_rows, takes_t1, listed, b1b3, b2b3, room_in_b, replace, manage, check}
use Rattle.arc.specs.Arc.{is_some, has_row, again, cleared}
use Rattle.arc.specs.Tally.{length-first, first_one, nil-no, nil-yes, length_none}
use Rattle.arc.specs.ArcMid.{OutlastsOut}

-- the sizes: T1 and T2, B1 and B2
abbrev pub tops : Lists → ℕ
tops l = length l.T1 + length l.T2

abbrev pub history : Lists → ℕ
history l = length l.B1 + length l.B2
