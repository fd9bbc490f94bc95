-- The lists end to end: an address leaves from its place, joins at a place, and each move of Algorithm 3 takes the address at one place to a later
-- one. This is what code can do on their bytes.
use Rattle.std.specs.Prelude.{◌≡◌, refl, List, [], ◌∷◌, ◌++◌, ℕ, suc, eqb, length, take, drop, get_or}
use Rattle.std.proofs.Common.{sym, ap, ap₂, ◌∙◌, append_assoc, append-nil}
use Rattle.std.proofs.Math.Seq.{take-append_seam, drop-append_seam}
use Rattle.tables.specs.Rows.{remove_at}
use Rattle.paper.specs.KeyedLaws.{without-append}
use Rattle.arc.specs.Arc.{Lists, out, left, join_t1, join_t2, t1b1, t2b2, t1b3, b1b3, b2b3, b1_out, b2_out, b3_out}
use Rattle.arc.specs.ArcLent.{end_to_end}
use Rattle.arc.specs.ArcEnds.{insert_at, rotated}

drop_past : (pre post : List ℕ) (x : ℕ) → drop (suc (length pre)) (pre ++ (x ∷ post)) ≡ post
drop_past [] post x = refl
drop_past (y ∷ ys) post x = drop_past ys post x

pub get_seam : (pre post : List ℕ) (x : ℕ) → get_or (pre ++ (x ∷ post)) (length pre) 0 ≡ x
get_seam [] post x = refl
get_seam (y ∷ ys) post x = get_seam ys post x

pub remove_seam : (pre post : List ℕ) (x : ℕ) → remove_at (pre ++ (x ∷ post)) (length pre) ≡ pre ++ post
remove_seam pre post x = ap₂ {C = List ℕ} ◌++◌ (take-append_seam pre (x ∷ post)) (drop_past pre post x)

pub insert_seam : (pre post : List ℕ) (x : ℕ) → insert_at (length pre) x (pre ++ post) ≡ pre ++ (x ∷ post)
insert_seam pre post x = ap₂ {C = List ℕ} (λ l r. l ++ (x ∷ r)) (take-append_seam pre post) (drop-append_seam pre post)

pub rotate-seam : (pre mid post : List ℕ) (x : ℕ) → rotated (length pre) (length (pre ++ mid)) (pre ++ (x ∷ (mid ++ post))) ≡ pre ++ (mid ++ (x ∷ post))
rotate-seam pre mid post x =
    ap₂ {C = List ℕ} (insert_at (length (pre ++ mid))) (get_seam pre (mid ++ post) x) (remove_seam pre (mid ++ post) x ∙ sym (append_assoc pre mid post))
    ∙ insert_seam (pre ++ mid) post x ∙ append_assoc pre mid (x ∷ post)

-- "leaves its list first": in all lists at once
pub end-left : (a : ℕ) (l : Lists) → end_to_end (left a l) ≡ out a (end_to_end l)
end-left a l =
    let f : ℕ → ℕ = λ x. x in
    sym (without-append eqb f a l.T1 (l.T2 ++ (l.B1 ++ (l.B2 ++ l.B3)))
    ∙ ap (λ z. out a l.T1 ++ z) (without-append eqb f a l.T2 (l.B1 ++ (l.B2 ++ l.B3))
    ∙ ap (λ z. out a l.T2 ++ z) (without-append eqb f a l.B1 (l.B2 ++ l.B3)
    ∙ ap (λ z. out a l.B1 ++ z) (without-append eqb f a l.B2 l.B3))))

three : (p q r s : List ℕ) → (p ++ (q ++ r)) ++ s ≡ p ++ (q ++ (r ++ s))
three p q r s = append_assoc p (q ++ r) s ∙ ap (λ w. p ++ w) (append_assoc q r s)

-- a move to the very end
rotate-end : (pre mid : List ℕ) (x : ℕ) → rotated (length pre) (length (pre ++ mid)) (pre ++ (x ∷ mid)) ≡ pre ++ (mid ++ (x ∷ []))
rotate-end pre mid x = ap (λ w. rotated (length pre) (length (pre ++ mid)) (pre ++ (x ∷ w))) (sym (append-nil mid)) ∙ rotate-seam pre mid [] x

-- the moves, where the list has an oldest x: `more` is the rest of that list
module _ (l : Lists) (x : ℕ) (more : List ℕ) where
  pub end-t1b1 : l.T1 ≡ x ∷ more → end_to_end (t1b1 l) ≡ rotated 0 (length (more ++ (l.T2 ++ l.B1))) (end_to_end l)
  end-t1b1 e =
      rw e (sym (
      ap (λ w. rotated 0 (length (more ++ (l.T2 ++ l.B1))) (x ∷ w)) (sym (three more l.T2 l.B1 (l.B2 ++ l.B3)))
      ∙ rotate-seam [] (more ++ (l.T2 ++ l.B1)) (l.B2 ++ l.B3) x
      ∙ three more l.T2 l.B1 (x ∷ (l.B2 ++ l.B3))
      ∙ ap (λ w. more ++ (l.T2 ++ w)) (sym (append_assoc l.B1 (x ∷ []) (l.B2 ++ l.B3)))))

  pub end-t2b2 : l.T2 ≡ x ∷ more → end_to_end (t2b2 l) ≡ rotated (length l.T1) (length (l.T1 ++ (more ++ (l.B1 ++ l.B2)))) (end_to_end l)
  end-t2b2 e =
      rw e (sym (
      ap (λ w. rotated (length l.T1) (length (l.T1 ++ (more ++ (l.B1 ++ l.B2)))) (l.T1 ++ (x ∷ w))) (sym (three more l.B1 l.B2 l.B3))
      ∙ rotate-seam l.T1 (more ++ (l.B1 ++ l.B2)) l.B3 x
      ∙ ap (λ w. l.T1 ++ w) (three more l.B1 l.B2 (x ∷ l.B3) ∙ ap (λ w. more ++ (l.B1 ++ w)) (sym (append_assoc l.B2 (x ∷ []) l.B3)))))

  pub end-t1b3 : l.T1 ≡ x ∷ more → end_to_end (t1b3 l) ≡ rotated 0 (length (more ++ (l.T2 ++ (l.B1 ++ (l.B2 ++ l.B3))))) (end_to_end l)
  end-t1b3 e =
      rw e (sym (rotate-end [] (more ++ (l.T2 ++ (l.B1 ++ (l.B2 ++ l.B3)))) x
      ∙ append_assoc more (l.T2 ++ (l.B1 ++ (l.B2 ++ l.B3))) (x ∷ []) ∙ ap (λ w. more ++ w) (append_assoc l.T2 (l.B1 ++ (l.B2 ++ l.B3)) (x ∷ [])
      ∙ ap (λ w. l.T2 ++ w) (three l.B1 l.B2 l.B3 (x ∷ [])))))

  pub end-b1b3 : l.B1 ≡ x ∷ more → end_to_end (b1b3 l) ≡ rotated (length (l.T1 ++ l.T2)) (length ((l.T1 ++ l.T2) ++ (more ++ (l.B2 ++ l.B3)))) (end_to_end l)
  end-b1b3 e =
      let pre = l.T1 ++ l.T2 in
      let mid = more ++ (l.B2 ++ l.B3) in
      rw e (sym (ap (rotated (length pre) (length (pre ++ mid))) (sym (append_assoc l.T1 l.T2 (x ∷ mid))) ∙ rotate-end pre mid x
      ∙ append_assoc l.T1 l.T2 (mid ++ (x ∷ []))
      ∙ ap (λ w. l.T1 ++ (l.T2 ++ w)) (three more l.B2 l.B3 (x ∷ []))))

  pub end-b2b3 : l.B2 ≡ x ∷ more → end_to_end (b2b3 l) ≡ rotated (length (l.T1 ++ (l.T2 ++ l.B1)))
      (length ((l.T1 ++ (l.T2 ++ l.B1)) ++ (more ++ l.B3))) (end_to_end l)
  end-b2b3 e =
      let pre = l.T1 ++ (l.T2 ++ l.B1) in
      let mid = more ++ l.B3 in
      rw e (sym (ap (rotated (length pre) (length (pre ++ mid))) (sym (three l.T1 l.T2 l.B1 (x ∷ mid))) ∙ rotate-end pre mid x
      ∙ three l.T1 l.T2 l.B1 (mid ++ (x ∷ []))
      ∙ ap (λ w. l.T1 ++ (l.T2 ++ (l.B1 ++ w))) (append_assoc more l.B3 (x ∷ []))))

  -- evictions
  pub end-b1_out : l.B1 ≡ x ∷ more → end_to_end (b1_out l) ≡ remove_at (end_to_end l) (length (l.T1 ++ l.T2))
  end-b1_out e =
      let pre = l.T1 ++ l.T2 in
      let post = more ++ (l.B2 ++ l.B3) in
      rw e (sym (ap (λ w. remove_at w (length pre)) (sym (append_assoc l.T1 l.T2 (x ∷ post))) ∙ remove_seam pre post x
      ∙ append_assoc l.T1 l.T2 post))

  pub end-b2_out : l.B2 ≡ x ∷ more → end_to_end (b2_out l) ≡ remove_at (end_to_end l) (length (l.T1 ++ (l.T2 ++ l.B1)))
  end-b2_out e =
      let pre = l.T1 ++ (l.T2 ++ l.B1) in
      let post = more ++ l.B3 in
      rw e (sym (ap (λ w. remove_at w (length pre)) (sym (three l.T1 l.T2 l.B1 (x ∷ post))) ∙ remove_seam pre post x
      ∙ three l.T1 l.T2 l.B1 post))

  pub end-b3_out : l.B3 ≡ x ∷ more → end_to_end (b3_out l) ≡ remove_at (end_to_end l) (length (l.T1 ++ (l.T2 ++ (l.B1 ++ l.B2))))
  end-b3_out e =
      let pre = l.T1 ++ (l.T2 ++ (l.B1 ++ l.B2)) in
      let four : (z : List ℕ) → pre ++ z ≡ l.T1 ++ (l.T2 ++ (l.B1 ++ (l.B2 ++ z)))
      = λ z. append_assoc l.T1 (l.T2 ++ (l.B1 ++ l.B2)) z ∙ ap (λ w. l.T1 ++ w) (three l.T2 l.B1 l.B2 z) in
      rw e (sym (ap (λ w. remove_at w (length pre)) (sym (four (x ∷ more))) ∙ remove_seam pre more x ∙ four more))

-- joining
pub end-join_t1 : (a : ℕ) (l : Lists) → end_to_end (join_t1 a l) ≡ insert_at (length l.T1) a (end_to_end l)
end-join_t1 a l =
    let post = l.T2 ++ (l.B1 ++ (l.B2 ++ l.B3)) in
    append_assoc l.T1 (a ∷ []) post ∙ sym (insert_seam l.T1 post a)

pub end-join_t2 : (a : ℕ) (l : Lists) → end_to_end (join_t2 a l) ≡ insert_at (length (l.T1 ++ l.T2)) a (end_to_end l)
end-join_t2 a l =
    let post = l.B1 ++ (l.B2 ++ l.B3) in
    sym (ap (insert_at (length (l.T1 ++ l.T2)) a) (sym (append_assoc l.T1 l.T2 post)) ∙ insert_seam (l.T1 ++ l.T2) post a
    ∙ append_assoc l.T1 l.T2 (a ∷ post) ∙ ap (λ w. l.T1 ++ w) (sym (append_assoc l.T2 (a ∷ []) post)))
