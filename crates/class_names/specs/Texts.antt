-- Names of classes that are texts.
use Rattle.std.specs.Prelude.{◌≡◌, Some}
use Rattle.std.specs.Str.{IsUtf8}
use Rattle.machine.specs.Data.{Id}
use Rattle.classes.specs.Classes.{Class, Classes}

-- the namespace and the name of each class are texts in UTF-8
abbrev pub AreTexts : Classes → Type 0
AreTexts cs = (c : Id) (k : Class) → cs.class c ≡ Some k → IsUtf8 k.namespace × IsUtf8 k.name
