-- What is printed at each outcome, and its status.
use Rattle.std.specs.Prelude.{ℕ, codes, List, [], ◌∷◌, ◌++◌}
use Rattle.std.specs.Fmt.{decimal, signed_decimal}
use Rattle.plain_types.specs.declared.fault.Place.{Place}
use Rattle.plain_types.specs.declared.fault.Fault.{Fault}
use Rattle.plain_types.specs.declared.fault.Limit.{Limit}
use Rattle.mf_front.specs.declared.outcome.End.{End}
use Rattle.mf_front.specs.declared.outcome.End.TheVariants.{Returned, StepsSpent}
use Rattle.mf_front.specs.declared.outcome.Outcome.{Outcome}
use Rattle.mf_front.specs.declared.outcome.Outcome.TheVariants.{Usage, Refused, ReadFault, NoMemory, Accepted, OverLimit, Converted, WriteFault, Ran}

-- each line ends so
abbrev pub line_end : List ℕ
line_end = 10 ∷ []

unfoldable pub usage_text : List ℕ
usage_text = codes "usage: mfdeploy run1 FILE STEPS | check FILES | convert OUT FILES" ++ line_end

-- a place in a file
unfoldable pub place_text : Place → List ℕ
place_text place =
    codes " table " ++ decimal place.table ++ codes " row " ++ decimal place.row ++ codes " offset " ++ decimal place.offset ++ line_end

-- the rule, the file, and the place in it
unfoldable pub refused_text : Fault → List ℕ → List ℕ
refused_text fault file = codes "refused: rule " ++ decimal fault.rule ++ codes " " ++ file ++ place_text fault.place

-- how many files were accepted, and how many types and methods they have
unfoldable pub accepted_text : ℕ → ℕ → ℕ → List ℕ
accepted_text files types methods =
    codes "accepted: " ++ decimal files ++ codes " files, " ++ decimal types ++ codes " types, " ++ decimal methods ++ codes " methods" ++ line_end

-- the limit's number, what was counted, and where: an assembly's name, or `set`
unfoldable pub limit_text : Limit → List ℕ → List ℕ
limit_text limit assembly = codes "limit: " ++ decimal limit.number ++ codes " " ++ decimal limit.count ++ codes " in " ++ assembly ++ line_end

-- how many bytes the set has, and how many assemblies
unfoldable pub converted_text : ℕ → ℕ → List ℕ
converted_text bytes assemblies =
    codes "converted: " ++ decimal bytes ++ codes " bytes, " ++ decimal assemblies ++ codes " assemblies" ++ line_end

unfoldable pub end_text : End → List ℕ
end_text (Returned value) = codes "end: returned " ++ signed_decimal value ++ line_end
end_text StepsSpent = codes "end: steps spent" ++ line_end

unfoldable pub text_of : Outcome → List ℕ
text_of Usage = usage_text
text_of (Refused fault file) = refused_text fault file
text_of (ReadFault file) = codes "read fault: " ++ file ++ line_end
text_of NoMemory = codes "no memory" ++ line_end
text_of (Accepted files types methods) = accepted_text files types methods
text_of (OverLimit limit assembly) = limit_text limit assembly
text_of (Converted bytes assemblies) = converted_text bytes assemblies
text_of WriteFault = []
text_of (Ran status text) = text

abbrev pub status_of : Outcome → ℕ
status_of Usage = 1
status_of (Refused fault file) = 2
status_of (ReadFault file) = 6
status_of NoMemory = 8
status_of (Accepted files types methods) = 0
status_of (OverLimit limit assembly) = 3
status_of (Converted bytes assemblies) = 0
status_of WriteFault = 7
status_of (Ran status text) = status
