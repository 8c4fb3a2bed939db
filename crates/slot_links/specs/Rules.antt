-- When links are those of the rules of virtual methods.
use Rattle.std.specs.Prelude.{◌≡◌, ℕ, List}
use Rattle.machine.specs.Data.{Id}
use Rattle.classes.specs.Classes.{OwnMethod}
use Rattle.assemblies.specs.Rows.{Assembly}
use Rattle.kept_closure.specs.Kept.{Overrides, Fills}
use Rattle.kept_rules.specs.Rules.{TakesSlot, SlotTaken, FilledBy}
use Rattle.row_rules.specs.Links.{Link}
use Rattle.row_rules.specs.Given.{HasLink, AreRules}

-- a list has each rule of a slot that a class of a file takes, and of a method that is filled in it, and no links but those of rules
pub record AreSlotRules (size : ℕ) (ps : List Assembly) (f : ℕ) (links : List Link) : Type 0 where
  pub takes : (c : Id) (up : List Id) (m u : OwnMethod) (o : Overrides size ps c up m u) → c.file ≡ f → HasLink links size ps (TakesSlot c up m u o)
  pub taken : (c : Id) (up : List Id) (m u : OwnMethod) (o : Overrides size ps c up m u) → c.file ≡ f → HasLink links size ps (SlotTaken c up m u o)
  pub filled : (c i d : Id) (m body : OwnMethod) (o : Fills size ps c i d m body) → c.file ≡ f → HasLink links size ps (FilledBy c i d m body o)
  pub are : AreRules size ps links
