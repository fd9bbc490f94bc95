-- The names of T1 and T2 are marked, then their rows' block rows; the first that isn't is the oldest. Assumes nothing.
use Rattle.std.specs.Prelude.{Option, unwrap_or}
use mathlib.Core.Path.{◌≡◌, refl, sym, ap, ◌∙◌, subst}
use mathlib.Core.List.{List, []}
use Prim.Native.Nat.{ℕ, ◌+◌, ◌<◌}
use native.Mathlib.Omega.{arith}
use lib.ListN.{length-replicate}
use Rattle.std.proofs.Common.{rules}
use Rattle.tables.specs.Rows.{row_at}
use Rattle.tables.specs.Bits.{bit_at, has-bit, no_bits}
use Rattle.tables.specs.Sound.{row_address}
use Rattle.tables.specs.SoundLaws.{Marked, fresh}
use Rattle.paper.specs.Layout.{Blocks}
use Rattle.arclists.specs.Names.{fine}
use Rattle.parts.specs.Rep.{no_row}
use Rattle.parts.specs.MoveLaws.{address_is, address_below}
use Rattle.step.specs.Unique.{unique-is}
use Rattle.arcstep.specs.Runs.{Within, Runs}
use Rattle.arcstep.specs.Victim.{oldest_at}
use Rattle.arcstep.proofs.Naming.{tops, tops-fine, tops-read}
use Rattle.arcstep.proofs.Victims.{found-oldest}
use Rattle.arcstep.proofs.victim.oldest_at.Goals as goal
use Rattle.arcstep.proofs.victim.oldest_at.Goals.{After-first_unknown}

-- what is found is the oldest
found : (c : After-first_unknown)
    → (let a = c.args in (disk flash : List ℕ) (R : Within a.b) → Runs a.b a.t disk flash a.addrs.now a.blocks.now a.lists.now R
    → R.stepped.box.free ≡ [] → unwrap_or c.first_unknown.result a.b.slots ≡ oldest_at R.kept R.stepped.box)
found c disk flash R h e =
    let a = c.args in
    let m = c.names_marked in
    let k = c.mark_tops in
    let hb = subst (λ f. Blocks a.b.slots a.blocks.now f R.stepped.box.used) e h.box.blocks-are in
    let w = tops-read h.names h.low (a.t.sizes.t1 + a.t.sizes.t2) refl in
    let marked = subst (Marked (bit_at m.new.seen) 65536) w (m.ensures.marked (m.ensures.value ∙ ap fine w ∙ tops-fine R.kept h.low)) in
    found-oldest a.b.blocks a.b.rows a.t.held a.b.slots a.addrs.now a.blocks.now m.new.seen k.new.known R.kept R.stepped.box.rows
    R.stepped.box.used h.box.rows_are hb (unique-is a.b.slots a.blocks.now [] R.stepped.box.used hb h.once) marked
    k.ensures.known_len k.ensures.by_index_3 c.first_unknown.result c.first_unknown.ensures

pub names_marked-requires : goal.names_marked-requires
names_marked-requires c = let p = c.requires.fits in
    record {
      n_in_bounds = (omega (arith, p.6), refl);
      by_index = (λ x h. no_bits 8192 x (has-bit 8192 x h));
    }

pub mark_tops-requires : goal.mark_tops-requires
mark_tops-requires c =
    let a = c.args in
    let p = c.requires.fits in
    let h = c.requires.by_index.3.box.rows_are in
    record {
      has_rows = (omega (arith, p.8, p.4), c.names_marked.ensures.seen_len, (omega (arith, p.5), p.1), length-replicate {A = ℕ} 257 0);
      by_index = (λ k l.
          let e = address_is a.b.blocks a.b.rows a.t.held a.addrs.now _ h k l no_row in
          let b = address_below a.b.blocks a.b.rows a.t.held a.addrs.now _ h k l no_row in
          let s = h.small in
          omega (arith, e, b, s));
      indexed = c.requires.indexed;
      by_index_2 = fresh 257;
    }

pub returns-in-Some : goal.returns-in-Some
returns-in-Some c =
    let found : (let a = c.args in (disk flash : List ℕ) (R : Within a.b) → Runs a.b a.t disk flash a.addrs.now a.blocks.now a.lists.now R
    → R.stepped.box.free ≡ [] → unwrap_or c.first_unknown.result a.b.slots ≡ oldest_at R.kept R.stepped.box) = λ disk flash R h e.
    let a = c.args in
    let m = c.names_marked in
    let k = c.mark_tops in
    let hb = subst (λ f. Blocks a.b.slots a.blocks.now f R.stepped.box.used) e h.box.blocks-are in
    let w = tops-read h.names h.low (a.t.sizes.t1 + a.t.sizes.t2) refl in
    let marked = subst (Marked (bit_at m.new.seen) 65536) w (m.ensures.marked (m.ensures.value ∙ ap fine w ∙ tops-fine R.kept h.low)) in
    found-oldest a.b.blocks a.b.rows a.t.held a.b.slots a.addrs.now a.blocks.now m.new.seen k.new.known R.kept R.stepped.box.rows
    R.stepped.box.used h.box.rows_are hb (unique-is a.b.slots a.blocks.now [] R.stepped.box.used hb h.once) marked
    k.ensures.known_len k.ensures.by_index_3 c.first_unknown.result c.first_unknown.ensures in
    λ disk flash R h e. ap (λ (f : Option ℕ). unwrap_or f c.args.b.slots) (sym c.in-Some.is) ∙ found disk flash R h e

pub returns-in-None : goal.returns-in-None
returns-in-None c =
    let found : (let a = c.args in (disk flash : List ℕ) (R : Within a.b) → Runs a.b a.t disk flash a.addrs.now a.blocks.now a.lists.now R
    → R.stepped.box.free ≡ [] → unwrap_or c.first_unknown.result a.b.slots ≡ oldest_at R.kept R.stepped.box) = λ disk flash R h e.
    let a = c.args in
    let m = c.names_marked in
    let k = c.mark_tops in
    let hb = subst (λ f. Blocks a.b.slots a.blocks.now f R.stepped.box.used) e h.box.blocks-are in
    let w = tops-read h.names h.low (a.t.sizes.t1 + a.t.sizes.t2) refl in
    let marked = subst (Marked (bit_at m.new.seen) 65536) w (m.ensures.marked (m.ensures.value ∙ ap fine w ∙ tops-fine R.kept h.low)) in
    found-oldest a.b.blocks a.b.rows a.t.held a.b.slots a.addrs.now a.blocks.now m.new.seen k.new.known R.kept R.stepped.box.rows
    R.stepped.box.used h.box.rows_are hb (unique-is a.b.slots a.blocks.now [] R.stepped.box.used hb h.once) marked
    k.ensures.known_len k.ensures.by_index_3 c.first_unknown.result c.first_unknown.ensures in
    λ disk flash R h e. ap (λ (f : Option ℕ). unwrap_or f c.args.b.slots) (sym c.in-None.is) ∙ found disk flash R h e
