-- The rules of clauses in groups.
use Rattle.std.proofs.Common.{◌≡◌, Bool, true, false, ◌&&◌, refl, sym, ap, ◌∙◌}
use Rattle.std.specs.Prelude.{not, nat_eq}
use Rattle.classes.specs.Code.{CodeClause}
use Rattle.classes.specs.Clauses as lie
use Rattle.clause_regions.specs.Lying.{four_nest, four_keep}

ten : (a b c d e f g h i j : Bool) → ((a && b && c && d) && (e && f && g && h) && i && j) ≡ (a && (b && (c && (d && (e && (f && (g && (h && (i && j)))))))))
ten true true true true true true true true i j = refl
ten true true true true true true true false i j = refl
ten true true true true true true false h i j = refl
ten true true true true true false g h i j = refl
ten true true true true false f g h i j = refl
ten true true true false e f g h i j = refl
ten true true false d e f g h i j = refl
ten true false c d e f g h i j = refl
ten false b c d e f g h i j = refl

lies_in_parts : (b c : CodeClause) → (four_nest b c && four_keep b c && not (lie.is_inside c b) && not (nat_eq b.start c.start)) ≡ lie.lies_well b c
lies_in_parts b c =
    ten (lie.nest (lie.try_of b) (lie.try_of c)) (lie.nest (lie.try_of b) (lie.handler_of c)) (lie.nest (lie.handler_of b) (lie.try_of c)) (lie.nest (lie.handler_of b) (lie.handler_of c))
    (lie.try_keeps_whole (lie.try_of b) c) (lie.keeps_whole (lie.handler_of b) c) (lie.try_keeps_whole (lie.try_of c) b) (lie.keeps_whole (lie.handler_of c) b) (not (lie.is_inside c b)) (not (nat_eq b.start c.start))

pub not_nested : (b c : CodeClause) → four_nest b c ≡ false → false ≡ lie.lies_well b c
not_nested b c e = sym (sym (lies_in_parts b c) ∙ ap (λ n. n && four_keep b c && not (lie.is_inside c b) && not (nat_eq b.start c.start)) e)

pub not_kept : (b c : CodeClause) → four_nest b c ≡ true → four_keep b c ≡ false → false ≡ lie.lies_well b c
not_kept b c e f =
    sym
    (sym (lies_in_parts b c)
    ∙ ap (λ n. n && four_keep b c && not (lie.is_inside c b) && not (nat_eq b.start c.start)) e
    ∙ ap (λ k. k && not (lie.is_inside c b) && not (nat_eq b.start c.start)) f)

pub outer_first : (b c : CodeClause) → four_nest b c ≡ true → four_keep b c ≡ true → lie.is_inside c b ≡ true → false ≡ lie.lies_well b c
outer_first b c e f g =
    sym
    (sym (lies_in_parts b c)
    ∙ ap (λ n. n && four_keep b c && not (lie.is_inside c b) && not (nat_eq b.start c.start)) e
    ∙ ap (λ k. k && not (lie.is_inside c b) && not (nat_eq b.start c.start)) f
    ∙ ap (λ i. not i && not (nat_eq b.start c.start)) g)

pub apart : (b c : CodeClause) → four_nest b c ≡ true → four_keep b c ≡ true → lie.is_inside c b ≡ false → not (nat_eq b.start c.start) ≡ lie.lies_well b c
apart b c e f g =
    sym
    (sym (lies_in_parts b c)
    ∙ ap (λ n. n && four_keep b c && not (lie.is_inside c b) && not (nat_eq b.start c.start)) e
    ∙ ap (λ k. k && not (lie.is_inside c b) && not (nat_eq b.start c.start)) f
    ∙ ap (λ i. not i && not (nat_eq b.start c.start)) g)
