-- "From fresh, and until a 9, each read's block and its hit or miss are as without the limit.", proved for boxes that run D-LRU.
use Rattle.std.specs.Prelude.{◌≡◌, false, ◌≢◌, ◌≤◌, length}
use Rattle.std.proofs.Math.Path.{refl, ap, subst}
use Rattle.std.proofs.Common.{sym, ◌∙◌}
use mathlib.Core.List.{List, []}
use Rattle.paper.specs.Cache.{Numbers, Hashing, Box}
use Rattle.paper.specs.Engine.{Fixed, labelled}
use Rattle.paper.specs.Lent.{Lent, opening, call_of, unfit, limit_outside, over, refusal, served, kept, box_in, opened}
use Rattle.paper.specs.Sound.{Sound}
use Rattle.paper.proofs.LentLaws.{label-right, passes-sound}
use Rattle.paper.proofs.RefusalLaws.{exactly-opening, served-is, refused-keeps, opened-is}
use Rattle.paper.proofs.CallLaws.{fits, served-finds}
use Rattle.paper.specs.Reports.{report_refusal}
use Rattle.paper.specs.Batch.{start}
use Rattle.paper.specs.BatchLent.{Asking, one, many, report, recount, batch_refusal, served_batch}
use Rattle.paper.proofs.BatchLentLaws.{batch-finds, batch-served, batch-keeps, right-buffers}
use Rattle.paper.specs.Demand3.{number_of, returned, said_word}
use Rattle.paper.proofs.Demand3Laws.{Kept, kept_next, no-13, fresh_kept}
use Rattle.arc.specs.Policy.{lru}
use Rattle.arc.proofs.PromiseLaws.{lru-promises}
use Rattle.arc.proofs.LruServes.{lru-serves}
use Rattle.arc.proofs.FolderLaws.{lru-folder}
use Rattle.limits.specs.AsWithout.{single, folder, number, hits_said, lru_shows, lru_kind, unlimited, AsWithout}
use Rattle.blind.specs.Blind.{lru-blind}
use Rattle.blind.specs.Serving.{lru_state, lru-leaves, lru-stays}
use Rattle.limits.specs.Until.{refused_shown, outcome_shown, batch_shown, number_by, Inside}

-- ---- the calls of a D-LRU box in lent bytes are those over its policy
-- what the opening finds and every later call finds again
pub record Fitting (N : Numbers) : Type 0 where
  pub numbers : unfit N ≡ false
  pub limit : limit_outside N ≡ false
  pub label : length N.label ≡ 64
