-- Boxes of both kinds: what a served save wrote, a restore gives back as the flush left it, and the calls go on.
use Rattle.std.specs.Prelude.{◌≡◌, refl, Bool, false, ◌||◌, cond, List, [], ◌∷◌, map, ℕ, ◌+◌, ◌*◌, ◌≤◌, eqb, ltb, length, drop}
use Rattle.std.proofs.Common.{sym, ap, ◌∙◌, subst, inl, inr}
use Rattle.std.proofs.Math.Option.{Option, some}
use native.Mathlib.Omega.{arith}
use borrow.Author.Tests.{eqb-true, eqb-false, ltb-false, le-ltb, not-false}
use Rattle.hash.specs.LastChunk.{Size}
use Rattle.tables.specs.Find.{any}
use Rattle.tables.specs.Unsound.{nonzero}
use Rattle.paper.specs.KeyedLaws.{by-test, or-false-left, or-false-right}
use Rattle.paper.specs.Cache.{Numbers, Counters, dirty_rows}
use Rattle.paper.specs.Engine.{labelled}
use Rattle.paper.specs.Lent.{Lent, Ask, calling, unfit, limit_outside, wrong_buffers, other_length, over_limit, FewDirty, refusal, box_in}
use Rattle.paper.specs.BatchLent.{one, recount}
use Rattle.paper.specs.Demand3.{next}
use Rattle.paper.proofs.SoundTestsLaws.{addresses-good}
use Rattle.paper.specs.LentLaws.{Passes}
use Rattle.paper.proofs.LentLaws.{label-right}
use Rattle.paper.proofs.RefusalLaws.{exactly}
use Rattle.paper.proofs.CallLaws.{fits, limit-fits, served-finds, served-box, served-passes, outcome-few}
use Rattle.arc.specs.Arc.{Sizes, base_numbers, m_of}
use Rattle.arc.specs.ArcLent.{ArcLent, words, total_of, unfit_arc, misnamed, oversized, lists_unsound, top_uncached, wrong_arc_buffers, arc_refusal}
use Rattle.arc.specs.ArcDemand.{box_of, arc_next}
use Rattle.arc.proofs.ArcExactlyLaws.{arc-exactly}
use Rattle.arc.proofs.ArcDemandLaws as Arc
use Rattle.arc.proofs.ArcDemandLaws.{ArcPasses, arc-fits, no-6, no-8, no-13}
use Rattle.image.specs.Body.{total, body_of, Form, body_length}
use Rattle.image.specs.Image.{too_short}
use Rattle.image.specs.Kinds.{lru_fields, arc_fields, lru_numbers, arc_sizes, lru_form, arc_form, kinds}
use Rattle.image.specs.Saved.{Saver, lru_saver, arc_saver, save_refusal, save, restore, goes_on, arc_goes_on}
use Rattle.image.specs.BodyLaws.{Fits}
use Rattle.image.specs.KindLaws.{Savable}

-- what a served flush finds
pub record LruFound (N : Numbers) (t : Lent) : Type 0 where
  pub fit : unfit N ≡ false
  pub limit : limit_outside N ≡ false
  pub label : length N.label ≡ 64
  pub passes : Passes N t
