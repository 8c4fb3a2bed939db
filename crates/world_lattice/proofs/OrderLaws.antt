-- The order of types asks for nothing but classes, and what a loaded value's type is.
use Rattle.std.proofs.Common.{◌≡◌, Bool, true, false, [], ◌∷◌, map, Option, Some, None, refl, sym, ap, subst, ◌∙◌}
use Rattle.std.specs.Prelude.{if◌then◌else◌, Result, Ok, Err, IfOk, IfSome}
use Rattle.std.specs.Option.{option_map}
use Rattle.ecma_types.specs.declared.stack.PlaceType.{PlaceType as WorldPlace}
use Rattle.ecma_types.specs.declared.stack.StackType.{StackType as WorldType}
use Rattle.machine.specs.Data.{CliType, Cell, Bits, Refers}
use Rattle.machine.specs.Numbers.{PlaceKind, Holds, HoldsPointer, HoldsHandle, is_long, kind_of_type}
use Rattle.machine.specs.Program.{Program}
use Rattle.machine_typed.specs.Typing.{StackType, I, L, Nil, O, H, P, Never, assignable, in_place, loaded, number}
use Rattle.classes.specs.Classes.{Classes}
use Rattle.classes.specs.Code.{Sources}
use Rattle.classes.specs.Listed.{program_of}
use Rattle.class_rules.specs.Merge.{merge, merge_others, stack_type_eq}
use Rattle.code_rules.specs.Judgement.{lattice_of}
use Rattle.place_types.specs.Types.{Agrees as OrderAgrees, place_back, place_by, place_of, stack_in, stack_of, stack_or_never, stack_up, type_of}
use Rattle.place_types.proofs.Spellings.{back, spelt_type}
use Rattle.ecma_effects.specs.Steps.{HasRows}
use Rattle.cil_types.specs.Rows.{FitsAs, HasRow}
use Rattle.cil_types.specs.Spelt.{AreSpelt}
use Rattle.forward_pass.specs.Seen.{Agrees}
use Rattle.pass_steps.specs.Seen.{fits_seen, rowed, seen_as, stack_seen}
use Rattle.pass_steps.proofs.OrderLaws.{effects_order}
use Rattle.pass_steps.proofs.SeenLaws.{one_first, rows_first, stacks_back}
use Rattle.world_lattice.specs.Order.{Merges, is_assignable, loaded_as, sources_of, stack_spelt}

-- ---- programs whose references fit alike

module _ (p q : Program) (alike : (a b : CliType) → p.fits a b ≡ q.fits a b) where
  same_order : (s t : StackType) → assignable p s t ≡ assignable q s t
  same_order (O a) (O b) = alike a b
  same_order s t = refl

  same_merge : (cs : Classes) (s t : StackType) → merge p cs s t ≡ merge q cs s t
  same_merge cs s t =
      ap (λ fit. if stack_type_eq s t then Some s else if fit then Some s else if assignable p s t then Some t else merge_others cs s t) (same_order t s)
      ∙ ap (λ fit. if stack_type_eq s t then Some s else if assignable q t s then Some s else if fit then Some t else merge_others cs s t) (same_order s t)

pub pass_order : (x : Sources) → AreSpelt x.classes → Agrees stack_seen (is_assignable x.classes) (Merges x.classes) (lattice_of x)
pass_order x spelt =
    record {
      fits = λ a b. same_order (program_of (sources_of x.classes)) (program_of x) (λ s t. refl) (stack_seen a) (stack_seen b);
      joins = λ a b both merges. merges spelt ∙ same_merge (program_of (sources_of x.classes)) (program_of x) (λ s t. refl) x.classes (stack_seen a) (stack_seen b);
    }

pub instruction_order : (x : Sources) → OrderAgrees (is_assignable x.classes) (fits_seen x)
instruction_order x = effects_order (sources_of x.classes)

-- ---- what is told of types with rows

pub has_row : (t : WorldType) → HasRow (rowed t)
has_row t = let rows : HasRows (rowed t ∷ []) = rows_first (t ∷ []) in cc rows

seen_here : (t : WorldType) → HasRow t → stack_seen t ≡ stack_in t
seen_here t row =
    let both : map seen_as (map stack_up (stack_in t ∷ [])) ≡ stack_in t ∷ [] = stacks_back (stack_in t ∷ []) in
    let one : seen_as (stack_up (stack_in t)) ≡ stack_in t = cc both in
    ap seen_as (sym row) ∙ one

seen_there : (both : Option WorldType) → IfSome both HasRow → option_map stack_seen both ≡ option_map stack_in both
seen_there None rows = refl
seen_there (Some t) row = ap Some (seen_here t row)

module _ (cs : Classes) (a b s u : WorldType) (first : s ≡ rowed a) (second : u ≡ rowed b) where
  here : stack_in s ≡ stack_seen a
  here = ap stack_in first ∙ one_first a

  there : stack_in u ≡ stack_seen b
  there = ap stack_in second ∙ one_first b

  pub assignable_told : {E : Type 0} (r : Result Bool E) → IfOk r (λ answer. (p : Program) → FitsAs cs p → answer ≡ assignable p (stack_in s) (stack_in u)) → IfOk r (λ answer. answer ≡ is_assignable cs a b)
  assignable_told (Err e) told = tt
  assignable_told (Ok answer) told =
      told (program_of (sources_of cs)) (λ x y. refl)
      ∙ (ap (λ x. assignable (program_of (sources_of cs)) x (stack_in u)) here
      ∙ ap (assignable (program_of (sources_of cs)) (stack_seen a)) there)

  pub merge_told : {E : Type 0} (r : Result (Option WorldType) E) → IfOk r (λ both. AreSpelt cs → (p : Program) → FitsAs cs p → option_map stack_in both ≡ merge p cs (stack_in s) (stack_in u)) → IfOk r (λ both. AreSpelt cs → HasRow s → HasRow u → IfSome both HasRow) → IfOk r (λ both. Merges cs a b both)
  merge_told (Err e) told rows = tt
  merge_told (Ok both) told rows =
      λ spelt.
      seen_there both (rows spelt (subst HasRow (sym first) (has_row a)) (subst HasRow (sym second) (has_row b)))
      ∙ (told spelt (program_of (sources_of cs)) (λ x y. refl)
      ∙ (ap (λ x. merge (program_of (sources_of cs)) cs x (stack_in u)) here
      ∙ ap (merge (program_of (sources_of cs)) cs (stack_seen a)) there))

-- ---- loaded values

number_back : (wide : Bool) → stack_or_never (stack_spelt (number wide)) ≡ number wide
number_back true = refl
number_back false = refl

value_back : (k : Option PlaceKind) (t : CliType) → type_of (place_back t) ≡ t → stack_or_never (stack_spelt (in_place k t)) ≡ in_place k t
value_back None t e = refl
value_back (Some (Holds (Bits i))) t e = number_back (is_long i)
value_back (Some (Holds Refers)) t e = ap O e
value_back (Some (HoldsPointer c)) t e = refl
value_back (Some HoldsHandle) t e = refl

place_comes : (pointer : Bool) (t : CliType) → type_of (place_back t) ≡ t → stack_or_never (stack_spelt (loaded (place_by pointer t))) ≡ loaded (place_by pointer t)
place_comes true t e = ap P e
place_comes false t e = value_back (kind_of_type t) t e

pub loaded_back : (of : WorldPlace) → stack_or_never (loaded_as of) ≡ loaded (place_of of)
loaded_back of = place_comes of.pointer (type_of of) (ap type_of (back of) ∙ spelt_type of)
