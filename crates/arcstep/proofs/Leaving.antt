-- The oldest of a list leaves the box. Assumes nothing.
use mathlib.Core.Path.{◌≡◌, sym, ap, ◌∙◌, subst}
use mathlib.Core.List.{List, [], ◌∷◌}
use Prim.Native.Nat.{ℕ, ◌+◌}
use lib.ListN.{drop, length}
use Rattle.paper.specs.Cache.{row_of}
use Rattle.arc.specs.Arc.{row_out, evicted}
use Rattle.arclists.specs.declared.ListSizes.{ListSizes}
use Rattle.arclists.specs.declared.ListName.{ListName}
use Rattle.arclists.specs.Holding.{Holds, names_of, out_of}
use Rattle.arclists.specs.MoveLaws.{none-out}
use Rattle.parts.specs.declared.BoxRecord.{BoxRecord}
use Rattle.parts.specs.Rep.{with_held, engine}
use Rattle.step.specs.Steps.{OnceEach}
use Rattle.arcstep.specs.declared.Running.{Running}
use Rattle.arcstep.specs.declared.evict.Gone.{Gone}
use Rattle.arcstep.specs.Runs.{Within, Runs, RowGone, evicted_from}
use Rattle.arcstep.proofs.Naming.{small-out}

none_out_lem : (b : BoxRecord) (from : ListName) (R : Within b) → names_of from R.kept ≡ [] → evicted_from b from R ≡ R
unfolding evicted
none_out_lem b from R e =
    λ i. record { kept = none-out from R.kept (ap length e) i; stepped = ap (λ x. evicted (engine b) x R.stepped) e i }

module _ (b : BoxRecord) (t : Running) (disk flash addrs blocks lists : List ℕ) (R : Within b) (h : Runs b t disk flash addrs blocks lists R)
    (from : ListName) where
  pub stays : names_of from R.kept ≡ [] → Runs b t disk flash addrs blocks lists (evicted_from b from R)
  stays e = subst (λ x. Runs b t disk flash addrs blocks lists x) (sym (none_out_lem b from R e)) h

  pub leaves : (x : ℕ) → names_of from R.kept ≡ x ∷ drop 1 (names_of from R.kept) → (g : Gone) (disk' addrs' lists' : List ℕ) (s : ListSizes)
      → RowGone (with_held b t.held) g disk' flash addrs' blocks R.stepped (row_out (engine b) x (row_of x R.stepped.box.rows) R.stepped)
      → Holds b.rows s lists' (out_of from R.kept)
      → Runs b (record { held = g.held; sizes = s; flashed = t.flashed; primary = t.primary + g.primary }) disk' flash addrs' blocks lists'
      (evicted_from b from R)
  unfolding evicted
  leaves x e g disk' addrs' lists' s q k =
      rw e (record {
        box = q.box;
        apart = q.apart;
        once = subst OnceEach (sym q.same-used) h.once;
        names = k;
        low = small-out R.kept h.low from;
        flashed = h.flashed ∙ sym q.flashed;
        primary = ap (λ n. n + g.primary) h.primary ∙ sym q.primary;
      })
