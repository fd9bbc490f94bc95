-- 11, 12 and 2 of a D-ARC box by 1, 12 and 2 of the base's. Assumes nothing.
use Rattle.std.specs.Prelude.{◌≡◌, Bool, ◌&&◌, ◌||◌, [], ◌∷◌, ℕ, ◌*◌, ◌≤◌, ◌<◌, leb, ltb, length}
use Rattle.std.proofs.Math.Path.{refl, sym}
use Rattle.std.proofs.Common.{ap, arith}
use Rattle.std.proofs.Math.Bool.{true, false, not}
use borrow.Author.Tests.{lt-ltb, le-ltb, le-leb, lt-leb, leb-true, leb-false, eq-eqb, ne_eqb}
use Rattle.tables.specs.Unsound.{elem}
use Rattle.paper.specs.KeyedLaws.{by-test, or_left, or_right, and_left}
use Rattle.paper.specs.Lent.{opening, between, unfit, limit_outside, other_length, wrong_buffers, refusal}
use Rattle.paper.proofs.RefusalLaws.{exactly-opening}
use Rattle.arc.specs.Arc.{Sizes, m_of, base_numbers}
use Rattle.arc.specs.ArcLent.{ArcLent, unfit_arc, arc_refusal}
use Rattle.arc.proofs.ArcExactlyLaws.{arc-exactly-opening}

-- 11 is 1 of the base's numbers: 2 × C + X is at least 1 where C is
module _ (Z : Sizes) where
  abbrev E : Bool
  E = not (elem Z.B (64 ∷ 128 ∷ 256 ∷ 512 ∷ 1024 ∷ 2048 ∷ 4096 ∷ []))

  abbrev P : Bool
  P = not (between 1 65536 Z.P)

  above : (m : ℕ) → 1 ≤ m → ltb 1024 m ≡ not (between 1 1024 m)
  above m h =
      by-test (leb m 1024)
      (λ e. let l = leb-true m 1024 e in rw (e, le-leb 1 m h, le-ltb 1024 m l) refl)
      (λ e. let l = leb-false m 1024 e in rw (e, le-leb 1 m h, lt-ltb 1024 m l) refl)

  pub unfit-base : unfit (base_numbers Z) ≡ unfit_arc Z
  unfolding unfit unfit_arc
  unfit-base =
      by-test (between 1 256 Z.C)
      (λ e. let l = leb-true 1 Z.C (and_left (leb 1 Z.C) (leb Z.C 256) e) in
      let h : 1 ≤ m_of Z = omega (arith, l) in
      rw (e, above (m_of Z) h) (or-last (E || P) (not (between 1 1024 (m_of Z)))))
      (λ e. rw e (all_true (E || P) (not (between 1 1024 (m_of Z))) (ltb 1024 (m_of Z))))
    where
      or-last : (a b : Bool) → a || b || false ≡ a || false || b
      or-last true b = refl
      or-last false true = refl
      or-last false false = refl

      all_true : (a b c : Bool) → a || b || true ≡ a || true || c
      all_true true b c = refl
      all_true false true c = refl
      all_true false false c = refl

  pub cached-unfit : 256 < Z.C → true ≡ unfit_arc Z
  unfolding unfit_arc
  cached-unfit h =
      sym (or_left (E || P || not (between 1 256 Z.C)) (ltb 1024 (m_of Z))
      (or_right (E || P) (not (between 1 256 Z.C)) (rw (lt-leb Z.C 256 h) (no-and (leb 1 Z.C)))))
    where
      no-and : (a : Bool) → not (a && false) ≡ true
      no-and true = refl
      no-and false = refl

  pub extra-unfit : 1024 < Z.X → true ≡ unfit_arc Z
  unfolding unfit_arc
  extra-unfit h = sym (or_right (E || P || not (between 1 256 Z.C)) (ltb 1024 (m_of Z)) (lt-ltb 1024 (m_of Z) (omega (arith, h))))

-- a number that the base's opening gets, and what the lists' length adds
module _ (Z : Sizes) (t : ArcLent) where
  pub opening-11 : unfit_arc Z ≡ true → 11 ≡ arc_refusal Z t opening
  opening-11 u = sym ((arc-exactly-opening Z t).gives-11.1 (tt, u))

  abbrev M : ℕ
  M = refusal (base_numbers Z) t.base opening

  module _ (u : unfit_arc Z ≡ false) where
    pub opening-base : (M ≡ 0 → ⊥) → M ≡ arc_refusal Z t opening
    unfolding refusal arc_refusal
    opening-base n =
        by-test (limit_outside (base_numbers Z))
        (λ l. rw (unfit-base Z, u, l) refl)
        (λ l. by-test (wrong_buffers (base_numbers Z) t.base)
        (λ w. rw (unfit-base Z, u, l, w) refl)
        (λ w. absurd (n (rw (unfit-base Z, u, l, w) refl))))

    module _ (e : M ≡ 0) where
      pub opening-lists : (length t.lists ≡ m_of Z * 4 → ⊥) → 2 ≡ arc_refusal Z t opening
      opening-lists h =
          let x = (exactly-opening (base_numbers Z) t.base).gives-0.0 e in
          sym ((arc-exactly-opening Z t).gives-2.1 (
            (u, (x.1.0, tt)),
            or_right (wrong_buffers (base_numbers Z) t.base) (other_length t.lists (m_of Z * 4)) (ap not (ne_eqb (length t.lists) (m_of Z * 4) h)),
          ))

      pub opening-none : length t.lists ≡ m_of Z * 4 → 0 ≡ arc_refusal Z t opening
      opening-none h =
          let x = (exactly-opening (base_numbers Z) t.base).gives-0.0 e in
          sym ((arc-exactly-opening Z t).gives-0.1 (u, (x.1.0, (rw (x.1.1.0, eq-eqb (length t.lists) (m_of Z * 4) h) refl, tt))))
