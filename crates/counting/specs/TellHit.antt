-- "For a D-LRU box and every list of reads from fresh, none refused": hits are as told from the list alone.
use Rattle.std.specs.Prelude.{◌≡◌, Bool, true, false, cond, ℕ, ◌≤◌, ltb}
use Rattle.std.proofs.Math.Path.{refl, ap, ap₂}
use Rattle.std.proofs.Common.{sym, ◌∙◌, inr, arith}
use Rattle.std.proofs.Math.Bool.{not, ◌&&◌}
use mathlib.Core.List.{List, [], ◌∷◌, ◌++◌, map, map-append, append-nil, append_assoc}
use Rattle.std.proofs.Math.Option.{Option, some}
use Rattle.std.proofs.Math.Dec.{eqb}
use Rattle.paper.specs.KeyedLaws.{All, by-test, or_left, or_right, eqb→≡, eqb-self}
use Rattle.paper.specs.Cache.{Numbers, Word, hit, miss}
use Rattle.paper.specs.Engine.{Fixed, labelled}
use Rattle.paper.specs.Lent.{Lent, opening, refusal, call, opened, fresh, split}
use Rattle.paper.specs.BatchLent.{Asking, one}
use Rattle.paper.specs.Machines.{Printed, printed_next, printed_hit, Read, printed_trace, content_of}
use Rattle.paper.specs.Demand3.{next, refusals, said_word, first_plain}
use Rattle.paper.proofs.OrderLaws.{order, order-snoc}
use Rattle.paper.proofs.RefusalLaws.{exactly-opening, opened-is}
use Rattle.paper.proofs.CallLaws.{fits}
use Rattle.paper.specs.Claims.{as_read, shown_by, fed_by}
use Rattle.paper.proofs.ClaimsLaws.{reads-alone}
use Rattle.counting.specs.Told.{occurs, since, distinct, tell_hit, tell}

-- the answer word of each read of a list; a refused one has none
unfoldable pub words : Numbers → Lent → List (ℕ × List ℕ) → List (Option Word)
words N t [] = []
words N t (r ∷ rs) = said_word (call N t (as_read r)).answer ∷ words N (next N t (one (as_read r))) rs

-- a list of reads as calls of a list
abbrev pub asked : List (ℕ × List ℕ) → List Asking
asked rs = map (λ r. one (as_read r)) rs

-- "none refused"
abbrev pub NoneRefused : Numbers → Lent → List (ℕ × List ℕ) → Type 0
NoneRefused N t rs = All (λ k. k ≡ 0) (refusals N t (asked rs))

-- the fingerprint of each address's content, on the disk as it was at first
abbrev pub content_in : Numbers → Lent → ℕ → Fixed 32
content_in N t = content_of (labelled N) (first_plain N t)

-- The same of one read, asked after others
unfoldable pub after : Numbers → Lent → List (ℕ × List ℕ) → Lent
after N t [] = t
after N t (r ∷ rs) = after N (next N t (one (as_read r))) rs
