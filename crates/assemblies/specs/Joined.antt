-- What a set of assemblies and a choice of its rows have to hold, so that the choice runs as the whole does.
use Rattle.std.specs.Prelude.{codes, ◌≡◌, ℕ, ◌≤◌, Bool, true, false, nat_lt, List, ◌∷◌, Some, None}
use Rattle.std.specs.List.{find, filter}
use Rattle.board_types.specs.declared.board.Known.{Known}
use Rattle.plain_types.specs.declared.elem.Elem.{Elem}
use Rattle.machine.specs.Data.{Id}
use Rattle.machine_rename.specs.Rename.{Asked}
use Rattle.classes.specs.Classes.{OwnMethod, Classes}
use Rattle.classes.specs.Queries.{ends, above, parents, enclosing_of, listed, chain, first_some, own_virtual, is_virtual_named, methods_of, method_at, is_or_implements, is_interface, known_name, basic_name, library_class}
use Rattle.classes.specs.Listed.{program_of}
use Rattle.assemblies.specs.Rows.{Assembly}
use Rattle.assemblies.specs.Binding.{classes_of, sources_of, method_owner}
use Rattle.assemblies.specs.Chosen.{Choice, chosen_set}
use Rattle.assemblies.specs.Closed.{Closed}

module _ (size more : ℕ) (keep : ℕ → Choice) (ps : List Assembly) where
  abbrev high : Classes
  high = classes_of size ps

  abbrev kept_method : OwnMethod → Bool
  kept_method m = (keep m.id.file).methods m.id.row

  pub record Joined : Type 0 where
    pub closed : Closed size keep ps
    pub grows : size ≤ more
    -- no way on goes in a circle
    pub ups : (c : Id) → ends size (above high) c ≡ true
    pub parents : (c : Id) → ends size (parents high) c ≡ true
    pub outers : (c : Id) → ends size (λ d. listed (enclosing_of high d)) c ≡ true
    -- no class has two methods of one name and signature
    pub firsts : (m c : Id) (x : OwnMethod) → method_owner ps m ≡ Some c → method_at high m ≡ Some x → x.is_virtual ≡ true → own_virtual high x c ≡ Some x
    pub alone : (m : OwnMethod) (c : Id) (y : OwnMethod) → own_virtual high m c ≡ Some y → kept_method y ≡ false → find (is_virtual_named m) (filter kept_method (methods_of high c)) ≡ None
    -- of kept types: a virtual method without newslot is kept exactly where the nearest inherited one of its name and signature is
    pub slots : (m : OwnMethod) (c : Id) (y u : OwnMethod) (up : List Id) → (keep c.file).types c.row ≡ true → chain high c ≡ c ∷ up → own_virtual high m c ≡ Some y → y.is_newslot ≡ false → first_some (own_virtual high m) up ≡ Some u → kept_method y ≡ kept_method u
    -- and one is kept where it fills a kept method of an interface
    pub fills : (m : OwnMethod) (c i : Id) (y : OwnMethod) → (keep c.file).types c.row ≡ true → method_owner ps m.id ≡ Some i → method_at high m.id ≡ Some m → kept_method m ≡ true → is_interface high i ≡ true → is_interface high c ≡ false → is_or_implements high c i ≡ true → first_some (own_virtual high m) (chain high c) ≡ Some y → kept_method y ≡ true
    -- the classes that the machine needs by name
    pub basics : (e : Elem) (name : List ℕ) (c : Id) → basic_name e ≡ Some name → library_class high name ≡ Some c → (keep c.file).types c.row ≡ true
    pub array : (c : Id) → library_class high (codes "Array") ≡ Some c → (keep c.file).types c.row ≡ true
    pub exception : (c : Id) → library_class high (codes "Exception") ≡ Some c → (keep c.file).types c.row ≡ true
    pub asked : (k : Known) (c : Id) → Asked (program_of (sources_of more (chosen_set keep ps))) k → library_class high (known_name k) ≡ Some c → (keep c.file).types c.row ≡ true
    -- places in code of two lengths
    pub begin : (f n : ℕ) → (keep f).long n 0 ≡ 0
    pub places : (f n a b : ℕ) → nat_lt ((keep f).long n a) ((keep f).long n b) ≡ nat_lt a b
