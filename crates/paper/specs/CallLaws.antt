-- What a served call finds and leaves: lent memory that passes, before and after, and counters that stay in 64 bits.
use Rattle.std.specs.Prelude.{◌≡◌, refl, true, false, not, ◌&&◌, ◌||◌, List, [], ◌∷◌, ◌⊎◌, ℕ, ◌≤◌, ◌<◌, ◌+◌, ◌^◌, min, eqb, leb, ltb, drop}
use Rattle.std.proofs.Common.{sym, ap₂, ◌∙◌, subst, inl, inr, arith, eqb-true, leb-true, leb-false, ltb-false}
use Rattle.std.proofs.Math.Path.{ap}
use Rattle.std.proofs.Math.Option.{Option, none, some, map}
use Rattle.std.proofs.lemmas.Bool.{eqb-false, not-false}
use Rattle.hash.specs.LastChunk.{Size}
use Rattle.tables.specs.Unsound.{elem}
use Rattle.paper.specs.Cache.{Numbers, About, about, Below, Outcome, Within, Counters, counted, serve, is_read, is_hit}
use Rattle.paper.specs.Cache.{flushed, dirty_rows, done}
use Rattle.paper.specs.KeyedLaws.{All, clash, by-test, or-false-left, or-false-right, and_left, and_right}
use Rattle.paper.specs.Engine.{Fixed, fit, labelled}
use Rattle.paper.specs.Lent.{Lent, Ask, calling, call_of, about_ask, address_of, lent_block, between, unfit, limit_outside, wrong_buffers, wrong_block}
use Rattle.paper.specs.Lent.{outside, over}
use Rattle.paper.specs.Lent.{FewDirty, counts, answered, refusal, served, call, box_in, lent_of}
use Rattle.paper.specs.Sound.{Sound}
use Rattle.paper.specs.Partly.{dirty_of}
use Rattle.paper.specs.RowBytes.{Bytes}
use Rattle.paper.specs.LentLaws.{Passes}

-- numbers that pass 1
pub record Fits (N : Numbers) : Type 0 where
  pub B-size : Size N.B
  pub P-most : N.P ≤ 65536
  pub m-least : 1 ≤ N.m
  pub m-most : N.m ≤ 1024
  pub d-least : 1 ≤ N.d
  pub d-most : N.d ≤ 256

-- what a served call finds
pub record Served (N : Numbers) (t : Lent) (q : Ask) : Type 0 where
  pub fits : Fits N
  pub passes : Passes N t
  pub limit : limit_outside N ≡ false
  pub few : FewDirty N (box_in N t)
  pub within : Within N.P (call_of N.B q)
  pub counters : (counts q && over t.counters) ≡ false

-- the paper's outcome of a call on lent bytes
abbrev pub outcome : (N : Numbers) → Lent → Ask → Outcome (Fixed 32) (Fixed N.B)
outcome N t q = serve (labelled N) N (box_in N t) (call_of N.B q)

-- counters that have grown by so much at most
pub record Grown (m : ℕ) (k l : Counters) : Type 0 where
  pub reads : (k.reads ≤ l.reads) × (l.reads ≤ k.reads + 1)
  pub hits : (k.hits ≤ l.hits) × (l.hits ≤ k.hits + 1)
  pub flash_writes : (k.flash_writes ≤ l.flash_writes) × (l.flash_writes ≤ k.flash_writes + 1)
  pub primary_writes : (k.primary_writes ≤ l.primary_writes) × (l.primary_writes ≤ k.primary_writes + (m + 1))

-- counters of 64 bits
pub record In64 (k : Counters) : Type 0 where
  pub reads : k.reads < 2 ^ 64
  pub hits : k.hits < 2 ^ 64
  pub flash_writes : k.flash_writes < 2 ^ 64
  pub primary_writes : k.primary_writes < 2 ^ 64
