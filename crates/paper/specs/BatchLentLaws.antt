-- What a served folder read finds and leaves, in bytes: lent memory that passes, the reads done in turn, and counters that stay in 64 bits.
use Rattle.std.specs.Prelude.{◌≡◌, Bool, false, not, ◌||◌, cond, ◌↔◌, ◌≢◌, ℕ, ◌≤◌, ◌<◌, ◌*◌, eqb, leb, ltb, length, take, drop}
use Rattle.std.proofs.Math.Path.{refl, ap, subst}
use Rattle.std.proofs.Common.{sym, ◌∙◌, eqb-true, leb-false, ltb-false, ne_eqb, le-ltb}
use Rattle.std.proofs.Math.Bool.{true}
use mathlib.Core.List.{List, [], ◌∷◌}
use native.Mathlib.Omega.{arith}
use Rattle.std.proofs.lemmas.Bool.{eqb-false, lt-leb, not-false}
use Rattle.tables.specs.Rows.{table_bytes}
use Rattle.tables.specs.Unsound.{addresses_unsound, blocks_unsound, dirty_uncached}
use Rattle.paper.specs.Cache.{Numbers, Call, dirty_rows, counted, serve}
use Rattle.paper.specs.KeyedLaws.{eqb-self, All, or-false-left, or-false-right}
use Rattle.paper.specs.Engine.{Fixed, labelled}
use Rattle.paper.specs.Lent.{Lent, Ask, test, one_of, calling, call_of, refusal, unfit, limit_outside, wrong_buffers, other_length}
use Rattle.paper.specs.Lent.{over_limit, FewDirty, over, box_in, lent_of, served}
use Rattle.paper.specs.Sound.{Sound}
use Rattle.paper.specs.LentLaws.{Passes}
use Rattle.paper.specs.RefusalLaws.{Apart, NoneOf}
use Rattle.paper.specs.CallLaws.{Fits, In64}
use Rattle.paper.specs.Batch.{Batched, start, added, in_turn}
use Rattle.paper.specs.BatchLent.{bad_count, any_outside, batch_tests, batch_refusal, BatchAnswer, refused, batched_from, served_batch, call_batch, served_in_turn}

-- what a served folder read finds
pub record Finds (N : Numbers) (t : Lent) (l buffer : List ℕ) : Type 0 where
  pub numbers : unfit N ≡ false
  pub fits : Fits N
  pub limit : limit_outside N ≡ false
  pub passes : Passes N t
  pub few : FewDirty N (box_in N t)
  pub some-address : 0 < length l
  pub count : length l ≤ 64
  pub long : length buffer ≡ length l * N.B
  pub within : All (λ a. a < N.P) l
  pub counters : over t.counters ≡ false

-- a refused one returns its number, and everything keeps its bytes
pub record KeepsBatch (N : Numbers) (t : Lent) (l buffer : List ℕ) : Type 0 where
  pub answer : (call_batch N t l buffer).answer ≡ refused (batch_refusal N t l buffer)
  pub lent : (call_batch N t l buffer).lent ≡ t
  pub buffer-kept : (call_batch N t l buffer).buffer ≡ buffer
