-- D-ARC is blind: its step, from a box and for a request made bare, is its step made bare.
-- Assumes nothing.
use Rattle.std.specs.Prelude.{◌≡◌, Bool, ◌&&◌, ◌||◌, eqb, leb, ltb}
use Rattle.std.proofs.Math.Path.{refl, ap}
use Rattle.std.proofs.Common.{◌∙◌}
use Rattle.std.proofs.Math.Bool.{true, false, not, cond}
use mathlib.Core.List.{List, [], ◌∷◌}
use Rattle.std.proofs.Math.Option.{Option, none, some, map}
use Prim.Native.Nat.{ℕ, zero, suc, ◌+◌}
use Rattle.std.proofs.Math.ListN.{length}
use Rattle.paper.specs.Cache.{Hashing, Seat, AddressRow, Box, Request, Stepped, row_of, newest, cached, oldest_unknown}
use Rattle.paper.specs.Cache.{taken_used, stored}
use Rattle.arc.specs.Policy.{Ran}
use Rattle.arc.specs.Arc.{Sizes, Lists, Was, in_t1, in_t2, in_b1, in_b2, in_b3, unheld, is_nil, takes_t1, on_top, top_rows, row_out, evicted, b1_evicted}
use Rattle.arc.specs.Arc.{b2_evicted, b3_evicted, listed, b1b3, b2b3, t1b1, t2b2, room_in_b, replace, manage, check, victim_of, is_some, has_row}
use Rattle.arc.specs.Arc.{cleared, taken_by, stored_in, block_newest, inserted, parted, checked, joined, to_t2, join_t1, join_t2, was_b2, list_of}
use Rattle.arc.specs.Arc.{arc_step_as, arc_step, arc}
use Rattle.blind.specs.Blind.{no_seat, kept_writes, kept_disk, bare, bares, bare_box, bare_request, bare_stepped, bare_ran, Blind, through-cond, no_writes}
use Rattle.blind.specs.Blind.{row-bare, without-bare, append-bare, copied-bare, more-bare, unknown-bare, stored-bare}

module _ (keep : Bool) where
  top-bare : {F : Type 0} (l : Lists) (rows : List (AddressRow F)) → top_rows l (bares keep rows) ≡ bares keep (top_rows l rows)
  unfolding top_rows
  top-bare l [] = refl
  top-bare {F} l (r ∷ rs) =
      through-cond (bares keep) (on_top l r.address) (ap {B = List (AddressRow F)} (λ x. bare keep r ∷ x) (top-bare l rs)) (top-bare l rs)

  module _ {F X : Type 0} (H : Hashing F X) where
    out-bare : (x : ℕ) (o : Option (AddressRow F)) (t : Stepped F X)
        → row_out H x (map (bare keep) o) (bare_stepped keep t) ≡ bare_stepped keep (row_out H x o t)
    unfolding row_out
    out-bare x none t = refl
    out-bare x (some r) t =
        let w = without-bare keep x t.box.rows in
        let d = copied-bare keep H (λ f. true) (r ∷ []) t.box.used t.box.flash t.box.disk in
        let n = more-bare keep H t.primary_writes (λ f. true) (r ∷ []) in
        λ i. record {
          box = record { rows = w i; free = t.box.free; used = t.box.used; flash = t.box.flash; disk = d i };
          flash_writes = t.flash_writes;
          primary_writes = n i;
        }

    evicted-bare : (l : List ℕ) (t : Stepped F X) → evicted H l (bare_stepped keep t) ≡ bare_stepped keep (evicted H l t)
    unfolding evicted
    evicted-bare [] t = refl
    evicted-bare (x ∷ xs) t = ap (λ o. row_out H x o (bare_stepped keep t)) (row-bare keep x t.box.rows) ∙ out-bare x (row_of x t.box.rows) t

    b1-bare : (t : Ran F X Lists) → b1_evicted H (bare_ran keep t) ≡ bare_ran keep (b1_evicted H t)
    b1-bare t = let e = evicted-bare t.kept.B1 t.stepped in λ i. record { kept = (b1_evicted H t).kept; stepped = e i }

    b2-bare : (t : Ran F X Lists) → b2_evicted H (bare_ran keep t) ≡ bare_ran keep (b2_evicted H t)
    b2-bare t = let e = evicted-bare t.kept.B2 t.stepped in λ i. record { kept = (b2_evicted H t).kept; stepped = e i }

    b3-bare : (t : Ran F X Lists) → b3_evicted H (bare_ran keep t) ≡ bare_ran keep (b3_evicted H t)
    b3-bare t = let e = evicted-bare t.kept.B3 t.stepped in λ i. record { kept = (b3_evicted H t).kept; stepped = e i }

    room-bare : (C : ℕ) (t : Ran F X Lists) → room_in_b H C (bare_ran keep t) ≡ bare_ran keep (room_in_b H C t)
    unfolding room_in_b
    room-bare C t =
        through-cond (bare_ran keep) (leb C (length t.kept.B1 + length t.kept.B2))
        (through-cond (bare_ran keep) (is_nil t.kept.B1) (b2-bare t) (b1-bare t)) refl

    replace-bare : (C : ℕ) (b2 : Bool) (t : Ran F X Lists) → replace H C b2 (bare_ran keep t) ≡ bare_ran keep (replace H C b2 t)
    unfolding replace
    replace-bare C b2 t =
        through-cond (bare_ran keep) (is_nil t.kept.T1 && is_nil t.kept.T2) refl
        (through-cond (bare_ran keep) (takes_t1 b2 t.kept) (ap (listed H t1b1) (room-bare C t)) (ap (listed H t2b2) (room-bare C t)))

    manage-bare : (C : ℕ) (b2 : Bool) (t : Ran F X Lists) → manage H C b2 (bare_ran keep t) ≡ bare_ran keep (manage H C b2 t)
    unfolding manage
    manage-bare C b2 t =
        through-cond (bare_ran keep) (leb C (length t.kept.T1 + length t.kept.B1))
        (through-cond (bare_ran keep) (ltb (length t.kept.T1) C) (replace-bare C b2 (listed H b1b3 t))
        (through-cond (bare_ran keep) (is_nil t.kept.B1) refl refl))
        (through-cond (bare_ran keep) (leb C (length t.kept.B1 + length t.kept.B2)) (replace-bare C b2 (listed H b2b3 t)) (replace-bare C b2 t))

    check-bare : (Z : Sizes) (b2 : Bool) (t : Ran F X Lists) → check H Z b2 (bare_ran keep t) ≡ bare_ran keep (check H Z b2 t)
    unfolding check
    check-bare Z b2 t =
        through-cond (bare_ran keep) (eqb (length t.kept.T1 + length t.kept.T2 + length t.kept.B3) (Z.C + Z.X))
        (ap (b3_evicted H) (through-cond (bare_ran keep) (is_nil t.kept.B3) (manage-bare Z.C b2 t) refl)
        ∙ b3-bare (cond (is_nil t.kept.B3) (manage H Z.C b2 t) t))
        refl

    victim-bare : (l : Lists) (s : Box F X) → victim_of H l (bare_box keep s) ≡ victim_of H l s
    victim-bare l s = ap (λ r. oldest_unknown H r s.used) (top-bare l s.rows) ∙ unknown-bare keep H (top_rows l s.rows) s.used

    has-bare : (l : Lists) (s : Box F X) → has_row H l (bare_box keep s) ≡ has_row H l s
    unfolding has_row
    has-bare l s = ap (λ o. not (is_nil s.free) || is_some H o) (victim-bare l s)

    cleared-bare : (n C : ℕ) (b2 : Bool) (t : Ran F X Lists) → cleared H n C b2 (bare_ran keep t) ≡ bare_ran keep (cleared H n C b2 t)
    unfolding cleared
    cleared-bare zero C b2 t = refl
    cleared-bare (suc n) C b2 t =
        ap (λ b. cond b (bare_ran keep t) (cleared H n C b2 (replace H C b2 (bare_ran keep t)))) (has-bare t.kept t.stepped.box)
        ∙ through-cond (bare_ran keep) (has_row H t.kept t.stepped.box) refl
        (ap (cleared H n C b2) (replace-bare C b2 t) ∙ cleared-bare n C b2 (replace H C b2 t))

    taken-bare : (l : Lists) (s : Box F X) (free : List ℕ) → taken_by H l (bare_box keep s) free ≡ taken_by H l s free
    unfolding taken_by
    taken-bare l s (k ∷ free) = refl
    taken-bare l s [] = ap (λ o. taken_used H o s.used) (victim-bare l s)

    stored-in-bare : (g : F) (b : X) (t : Ran F X Lists) → stored_in H g b (bare_ran keep t) ≡ bare_ran keep (stored_in H g b t)
    unfolding stored_in
    stored-in-bare g b t =
        let s = t.stepped.box in
        let w = t.stepped.primary_writes in
        let e = ap (stored H (bares keep s.rows) s.used s.flash (kept_disk keep s.disk) g b (kept_writes keep w)) (taken-bare t.kept s s.free)
        ∙ stored-bare keep H s.rows s.used s.flash s.disk g b w (taken_by H t.kept s s.free) in
        λ i. record { kept = t.kept; stepped = e i }

    inserted-bare : (C : ℕ) (b2 : Bool) (g : F) (b : X) (t : Ran F X Lists) → inserted H C b2 g b (bare_ran keep t) ≡ bare_ran keep (inserted H C b2 g b t)
    unfolding inserted block_newest
    inserted-bare C b2 g b t =
        let n = length t.kept.T1 + length t.kept.T2 in
        through-cond (bare_ran keep) (cached H g t.stepped.box.used) refl
        (ap (stored_in H g b) (cleared-bare n C b2 t) ∙ stored-in-bare g b (cleared H n C b2 t))

    parted-bare : (C : ℕ) (l : Lists) (s : Box F X) (a : ℕ) (w : Was) → parted H C l (bare_box keep s) a w ≡ bare_ran keep (parted H C l s a w)
    unfolding parted
    parted-bare C l s a w =
        let e = without-bare keep a s.rows in
        λ i. record {
          kept = (parted H C l s a w).kept;
          stepped = record {
            box = record { rows = e i; free = s.free; used = s.used; flash = s.flash; disk = kept_disk keep s.disk };
            flash_writes = 0;
            primary_writes = no_writes keep i;
          };
        }

    checked-bare : (Z : Sizes) (w : Was) (t : Ran F X Lists) → checked H Z w (bare_ran keep t) ≡ bare_ran keep (checked H Z w t)
    unfolding checked
    checked-bare Z in_t1 t = refl
    checked-bare Z in_t2 t = refl
    checked-bare Z in_b1 t = check-bare Z false t
    checked-bare Z in_b2 t = check-bare Z true t
    checked-bare Z in_b3 t = refl
    checked-bare Z unheld t = check-bare Z false t

    joined-bare : (a : ℕ) (g : F) (d : Bool) (z : Seat) (w : Was) (t : Ran F X Lists)
        → joined H a g (keep && d) no_seat w (bare_ran keep t) ≡ bare_ran keep (joined H a g d z w t)
    unfolding joined
    joined-bare a g d z w t =
        let e = append-bare keep t.stepped.box.rows (newest a g d z ∷ []) in
        λ i. record {
          kept = cond (to_t2 H w) (join_t2 a t.kept) (join_t1 a t.kept);
          stepped = record {
            box = record {
              rows = e i;
              free = t.stepped.box.free;
              used = t.stepped.box.used;
              flash = t.stepped.box.flash;
              disk = kept_disk keep t.stepped.box.disk;
            };
            flash_writes = t.stepped.flash_writes;
            primary_writes = kept_writes keep t.stepped.primary_writes;
          };
        }

    step-as-bare : (Z : Sizes) (l : Lists) (s : Box F X) (q : Request F X) (w : Was)
        → arc_step_as H Z l (bare_box keep s) (bare_request keep q) w ≡ bare_ran keep (arc_step_as H Z l s q w)
    unfolding arc_step_as
    step-as-bare Z l s q w =
        let a = q.address in
        let g = q.fingerprint in
        let p = parted H Z.C l s a w in
        let n = inserted H Z.C (was_b2 w) g q.block p in
        ap (λ t. joined H a g (keep && q.dirty) no_seat w (checked H Z w (inserted H Z.C (was_b2 w) g q.block t))) (parted-bare Z.C l s a w)
        ∙ ap (λ t. joined H a g (keep && q.dirty) no_seat w (checked H Z w t)) (inserted-bare Z.C (was_b2 w) g q.block p)
        ∙ ap (joined H a g (keep && q.dirty) no_seat w) (checked-bare Z w n)
        ∙ joined-bare a g q.dirty q.seat w (checked H Z w n)

    -- D-ARC is blind
    pub arc-blind : (Z : Sizes) → Blind keep (arc H Z)
    unfolding arc_step
    arc-blind Z = record { runs = λ l s q. step-as-bare Z l s q (list_of q.address l) }
