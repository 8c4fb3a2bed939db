-- What a bound set keeps, and when that is what a found set's images say.
use Rattle.std.specs.Prelude.{◌≡◌, ⊤, List, map, Some, None}
use Rattle.std.specs.Option.{option_map}
use Rattle.board_types.specs.declared.board.Known.{Known}
use Rattle.plain_types.specs.declared.elem.Elem.{Elem}
use Rattle.classes.specs.Queries.{known, basic, array}
use Rattle.deploy_model.specs.Banks.{Image}
use Rattle.board_model.specs.Bound.{set_rows, bound_classes, named, first_lacking, first_circle}
use Rattle.board_program.specs.Places.{image_at}
use Rattle.set_binding.specs.Lacking.{row_seen}
use Rattle.bound_set.specs.Kept.{Kept}
use Rattle.bound_set.specs.declared.binding.BindRefusal.{BindRefusal}
use Rattle.bound_set.specs.declared.binding.BindRefusal.TheVariants.{Unresolved, Circle, NoMemory}

-- each reference names something, no type goes in a circle, and what is kept is the set's
pub record IsBound (images : List Image) (k : Kept) : Type 0 where
  pub places : k.places ≡ map (λ (x : Image). x.at) images
  pub named : k.named ≡ named (set_rows images)
  pub known : (which : Known) → k.known which ≡ known (bound_classes (set_rows images)) which
  pub basic : (e : Elem) → k.basic e ≡ basic (bound_classes (set_rows images)) e
  pub array : k.array ≡ array (bound_classes (set_rows images))
  pub references : first_lacking (set_rows images) ≡ None
  pub circles : first_circle (set_rows images) ≡ None

-- the first reference without a definition; else the place of the image with the first circle
abbrev pub IsRefused : List Image → BindRefusal → Type 0
IsRefused images (Unresolved row) = first_lacking (set_rows images) ≡ Some (row_seen row)
IsRefused images (Circle at) = (first_lacking (set_rows images) ≡ None) × (option_map (image_at images) (first_circle (set_rows images)) ≡ Some at)
IsRefused images NoMemory = ⊤
