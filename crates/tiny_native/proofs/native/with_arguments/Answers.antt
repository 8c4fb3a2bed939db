use Rattle.std.proofs.Common.{◌≡◌, ◌∷◌, List, drop, map, get_or, sym, ap, ◌∙◌, subst, arith}
use Rattle.std.specs.Prelude.{pos}
use Rattle.board_types.specs.declared.value.Value.{Value as BoardValue}
use Rattle.board_types.specs.declared.value.Value.TheVariants as board
use Rattle.machine.specs.Program.{ArrayCopy}
use Rattle.tiny_ops.specs.Operators.{stack_value}
use Rattle.tiny_native.specs.Seen.{AllNamed, Told}
use Rattle.tiny_native.specs.Ends.{Meets, native_in}
use Rattle.tiny_native.specs.Names.{native_name, one_name, two_name, three_name}
use Rattle.tiny_native.proofs.Arity.{few_one, few_two, few_three, first_of, firsts_of, three_of, few_five, five_of}
use Rattle.tiny_native.proofs.native.with_arguments.Goals as goal

pub returns-in_default : goal.returns-in_default
returns-in_default g c s h n told = (h.keeps, ap (λ k. native_in s (native_name k) c.args.args.now) c.in-One.is ∙ few_one s c.in-One.native c.args.args.now (omega (arith, c.in_default.len_below)))

pub returns-in_default-args : goal.returns-in_default-args
returns-in_default-args g c s h n told = (h.keeps, ap (λ k. native_in s (native_name k) c.args.args.now) c.in-Two.is ∙ few_two s c.in-Two.native c.args.args.now (omega (arith, c.in_default-args.len_below)))

pub returns-in_default-args-2 : goal.returns-in_default-args-2
returns-in_default-args-2 g c s h n told = (h.keeps, ap (λ k. native_in s (native_name k) c.args.args.now) c.in-Three.is ∙ few_three s c.in-Three.native c.args.args.now (omega (arith, c.in_default-args-2.len_below)))

pub returns-in-len1-up : goal.returns-in-len1-up
returns-in-len1-up g c s h n told =
    let args : List BoardValue = c.args.args.now in
    let d : BoardValue = board.Int (pos 0) in
    let is : args ≡ get_or args 0 d ∷ drop 1 args = first_of args d c.in-len1-up.len_at_least in
    let all : AllNamed s (get_or args 0 d ∷ drop 1 args) = subst (AllNamed s) is n in
    let about : Told s (g.S.Subclass.name c.args.types.now) (g.S.Subclass.bytes c.args.types.now) (one_name c.in-One.native) (get_or args 0 d ∷ drop 1 args) =
    subst (Told s (g.S.Subclass.name c.args.types.now) (g.S.Subclass.bytes c.args.types.now) (one_name c.in-One.native)) is
    (subst (λ k. Told s (g.S.Subclass.name c.args.types.now) (g.S.Subclass.bytes c.args.types.now) (native_name k) args) c.in-One.is told) in
    subst (λ o. Meets s c.of_one.new.ram o c.of_one.result) (sym (ap (λ k. native_in s (native_name k) args) c.in-One.is ∙ ap (native_in s (one_name c.in-One.native)) is))
    (c.of_one.ensures s (map (stack_value s.leads) (drop 1 args)) h all.0 about.0)

pub returns-in-len2-up : goal.returns-in-len2-up
returns-in-len2-up g c s h n told =
    let args : List BoardValue = c.args.args.now in
    let d : BoardValue = board.Int (pos 0) in
    let is : args ≡ get_or args 0 d ∷ get_or args 1 d ∷ drop 2 args = firsts_of args d d c.in-len2-up.len_at_least in
    let all : AllNamed s (get_or args 0 d ∷ get_or args 1 d ∷ drop 2 args) = subst (AllNamed s) is n in
    let about : Told s (g.S.Subclass.name c.args.types.now) (g.S.Subclass.bytes c.args.types.now) (two_name c.in-Two.native) (get_or args 0 d ∷ get_or args 1 d ∷ drop 2 args) =
    subst (Told s (g.S.Subclass.name c.args.types.now) (g.S.Subclass.bytes c.args.types.now) (two_name c.in-Two.native)) is
    (subst (λ k. Told s (g.S.Subclass.name c.args.types.now) (g.S.Subclass.bytes c.args.types.now) (native_name k) args) c.in-Two.is told) in
    subst (λ o. Meets s c.of_two.new.ram o c.of_two.result) (sym (ap (λ k. native_in s (native_name k) args) c.in-Two.is ∙ ap (native_in s (two_name c.in-Two.native)) is))
    (c.of_two.ensures s (map (stack_value s.leads) (drop 2 args)) h all.0 all.1.0 about.1.0)

pub returns-in-len3-up : goal.returns-in-len3-up
returns-in-len3-up g c s h n told =
    let args : List BoardValue = c.args.args.now in
    let d : BoardValue = board.Int (pos 0) in
    let is : args ≡ get_or args 0 d ∷ get_or args 1 d ∷ get_or args 2 d ∷ drop 3 args = three_of args d d d c.in-len3-up.len_at_least in
    let all : AllNamed s (get_or args 0 d ∷ get_or args 1 d ∷ get_or args 2 d ∷ drop 3 args) = subst (AllNamed s) is n in
    subst (λ o. Meets s c.of_three.new.ram o c.of_three.result) (sym (ap (λ k. native_in s (native_name k) args) c.in-Three.is ∙ ap (native_in s (three_name c.in-Three.native)) is))
    (c.of_three.ensures s (map (stack_value s.leads) (drop 3 args)) h all.0)

pub returns-in_default-args-3 : goal.returns-in_default-args-3
returns-in_default-args-3 g c s h n told = (h.keeps, ap (λ k. native_in s (native_name k) c.args.args.now) c.in-Copy.is ∙ few_five s c.args.args.now (omega (arith, c.in_default-args-3.len_below)))

pub returns-in-len5-up : goal.returns-in-len5-up
returns-in-len5-up g c s h n told =
    let args : List BoardValue = c.args.args.now in
    let d : BoardValue = board.Int (pos 0) in
    let is : args ≡ get_or args 0 d ∷ get_or args 1 d ∷ get_or args 2 d ∷ get_or args 3 d ∷ get_or args 4 d ∷ drop 5 args = five_of args d c.in-len5-up.len_at_least in
    let all : AllNamed s (get_or args 0 d ∷ get_or args 1 d ∷ get_or args 2 d ∷ get_or args 3 d ∷ get_or args 4 d ∷ drop 5 args) = subst (AllNamed s) is n in
    subst (λ o. Meets s c.copy.new.ram o c.copy.result) (sym (ap (λ k. native_in s (native_name k) args) c.in-Copy.is ∙ ap (native_in s ArrayCopy) is))
    (c.copy.ensures s (map (stack_value s.leads) (drop 5 args)) h all.0 all.1.1.0)
