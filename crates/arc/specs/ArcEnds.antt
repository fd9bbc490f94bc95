-- The lists end to end: an address leaves from its place, joins at a place, and each move of Algorithm 3 takes the address at one place to a later
-- one. This is what code can do on their bytes.
use Rattle.std.specs.Prelude.{◌≡◌, refl, List, [], ◌∷◌, ◌++◌, ℕ, suc, eqb, length, take, drop, get_or}
use Rattle.std.proofs.Common.{sym, ap, ap₂, ◌∙◌, append_assoc, append-nil}
use Rattle.std.proofs.Math.Seq.{take-append_seam, drop-append_seam}
use Rattle.tables.specs.Rows.{remove_at}
use Rattle.paper.specs.KeyedLaws.{without-append}
use Rattle.arc.specs.Arc.{Lists, out, left, join_t1, join_t2, t1b1, t2b2, t1b3, b1b3, b2b3, b1_out, b2_out, b3_out}
use Rattle.arc.specs.ArcLent.{end_to_end}

abbrev pub insert_at : ℕ → ℕ → List ℕ → List ℕ
insert_at j x w = take j w ++ (x ∷ drop j w)

-- the address at place i goes to place j of the others
abbrev pub rotated : (i j : ℕ) → List ℕ → List ℕ
rotated i j w = insert_at j (get_or w i 0) (remove_at w i)
