-- What is known of metadata that break no rule.
use Rattle.std.proofs.Common.{◌≡◌, ℕ, Bool, true, false, List, Option, Some, Ok, refl, cond}
use Rattle.plain_types.specs.declared.fault.Fault.{Fault}
use Rattle.file_tables.specs.Streams.{is_root}
use Rattle.file_tables.specs.Rules.{unless_broken}
use Rattle.file_tables.specs.Metadata.{MetadataPart, metadata_of, metadata_rules}

kept : (b : Bool) (fault : Fault) (o : Option Fault) (parts m : MetadataPart) → unless_broken (cond b o (Some fault)) parts ≡ Ok m → b ≡ true
kept true fault o parts m e = refl
kept false fault o parts m e = absurd (cc e)

pub root_is_kept : (region : List ℕ) (m : MetadataPart) → metadata_of region ≡ Ok m → is_root region ≡ true
unfolding metadata_of metadata_rules
root_is_kept region m e = kept (is_root region) _ _ _ m e
