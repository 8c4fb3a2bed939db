-- A look-up by bytes after an insertion.
use Rattle.std.proofs.Common.{◌≡◌, ℕ, Bool, true, false, ◌&&◌, cond, List, [], ◌∷◌, Some, None, Ordering, Less, Equal, Greater, is_eq, nat_cmp, refl, sym, ap, ◌∙◌}
use Rattle.std.specs.Prelude.{if◌then◌else◌, nat_eq}
use Rattle.std.specs.Ordering.{match_ordering}
use Rattle.std.specs.Cmp.Lexicographic.{slice_cmp}
use Rattle.std.specs.Map.{lookup}
use Rattle.std.specs.BTreeMap.{insert_entry}
use Rattle.std.specs.Global.{Vec}
use Rattle.std.specs.Str.{bytes_eq}
use Rattle.std.proofs.lemmas.Bool.{both_ways, eqb-true}
use Rattle.std.proofs.lemmas.Map.Text.{is_eq-slice_cmp}
use Rattle.machine.specs.Texts.{same_text}

and_left : (a b : Bool) → (a && b) ≡ true → a ≡ true
and_left true b e = refl
and_left false b e = absurd (cc e)

and_right : (a b : Bool) → (a && b) ≡ true → b ≡ true
and_right true b e = e
and_right false b e = absurd (cc e)

pub text_same : (xs ys : List ℕ) → same_text xs ys ≡ true → xs ≡ ys
text_same [] [] e = refl
text_same [] (y ∷ ys) e = absurd (cc e)
text_same (x ∷ xs) [] e = absurd (cc e)
text_same (x ∷ xs) (y ∷ ys) e =
    ap (λ z. z ∷ xs) (eqb-true x y (and_left (nat_eq x y) (same_text xs ys) e)) ∙ ap (λ zs. y ∷ zs) (text_same xs ys (and_right (nat_eq x y) (same_text xs ys) e))

bytes_same : (xs ys : List ℕ) → bytes_eq xs ys ≡ same_text xs ys
bytes_same [] [] = refl
bytes_same [] (y ∷ ys) = refl
bytes_same (x ∷ xs) [] = refl
bytes_same (x ∷ xs) (y ∷ ys) = ap (λ b. nat_eq x y && b) (bytes_same xs ys)

-- the order of bytes says equal where they are the same
pub order_same : (xs ys : List ℕ) → is_eq (slice_cmp nat_cmp xs ys) ≡ same_text xs ys
order_same xs ys = is_eq-slice_cmp xs ys ∙ bytes_same xs ys

module _ (text : List ℕ) where
  abbrev pub at_text : Vec ℕ → Bool
  at_text k = is_eq (slice_cmp nat_cmp text k.items)

  abbrev order : Vec ℕ → Vec ℕ → Ordering
  order x y = slice_cmp nat_cmp x.items y.items

  pub lookup_put : (es : List (Vec ℕ × ℕ)) (key : Vec ℕ) (v : ℕ) → lookup at_text (insert_entry order es key v) ≡ (if same_text text key.items then Some v else lookup at_text es)
  lookup_put [] key v = ap (λ b. cond b (Some v) None) (order_same text key.items)
  lookup_put (e ∷ es) key v = go (order key e.0) refl (lookup_put es key v)
    where
      both : (s t : Bool) → same_text text key.items ≡ s → at_text e.0 ≡ t → order key e.0 ≡ Greater → cond t (Some e.1) (if s then Some v else lookup at_text es) ≡ (if s then Some v else cond t (Some e.1) (lookup at_text es))
      both true true p q r =
          let one : text ≡ key.items = text_same text key.items p in
          let two : text ≡ e.0.items = text_same text e.0.items (sym (order_same text e.0.items) ∙ q) in
          let eq : is_eq (order key e.0) ≡ true = ap (λ (ks : List ℕ). is_eq (slice_cmp nat_cmp ks e.0.items)) (sym one) ∙ q in
          absurd (both_ways (is_eq (order key e.0)) (ap is_eq r) eq)
      both true false p q r = refl
      both false true p q r = refl
      both false false p q r = refl

      twice : (s : Bool) → cond s (Some v) (lookup at_text es) ≡ (if s then Some v else cond s (Some e.1) (lookup at_text es))
      twice true = refl
      twice false = refl

      go : (o : Ordering) → order key e.0 ≡ o → lookup at_text (insert_entry order es key v) ≡ (if same_text text key.items then Some v else lookup at_text es) → lookup at_text (match_ordering o ((key, v) ∷ e ∷ es) ((e.0, v) ∷ es) (e ∷ insert_entry order es key v)) ≡ (if same_text text key.items then Some v else lookup at_text (e ∷ es))
      go Less p more = ap (λ b. cond b (Some v) (lookup at_text (e ∷ es))) (order_same text key.items)
      go Equal p more =
          let keys : key.items ≡ e.0.items = text_same key.items e.0.items (sym (order_same key.items e.0.items) ∙ ap is_eq p) in
          let same : at_text e.0 ≡ same_text text key.items = ap (λ (ks : List ℕ). is_eq (slice_cmp nat_cmp text ks)) (sym keys) ∙ order_same text key.items in
          ap (λ b. cond b (Some v) (lookup at_text es)) same
          ∙ twice (same_text text key.items)
          ∙ ap (λ b. if same_text text key.items then Some v else cond b (Some e.1) (lookup at_text es)) (sym same)
      go Greater p more = ap (cond (at_text e.0) (Some e.1)) more ∙ both (same_text text key.items) (at_text e.0) refl refl p
