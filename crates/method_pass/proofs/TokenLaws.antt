-- A body that stands has a token of locals that stands (40).
use Rattle.std.proofs.Common.{◌≡◌, ℕ, Bool, true, false, List, Option, Some, None, refl, subst}
use Rattle.std.specs.Prelude.{◌==◌, ◌&&◌, slice_index, if◌then◌else◌}
use Rattle.cil_code.specs.Bodies.{BodyPart, body_at}
use Rattle.file_tables.specs.File.{FilePart}
use Rattle.file_tables.specs.Metadata.{MetadataPart}
use Rattle.file_tables.specs.Pe.{tail}
use Rattle.machine.specs.Throw.{on_some}
use Rattle.world_rows.specs.Lines.{body_in, body_part, if_sound, is_aligned, is_locals_token}
use Rattle.world_rows.specs.Rows.{is_internal}
use Rattle.verdict_rules.specs.Code.{body_of}

token_by : (m : MetadataPart) (c b : BodyPart) (aligned stands : Bool) → is_locals_token m c.locals_token ≡ stands → (if aligned && stands then Some c else None) ≡ Some b → is_locals_token m b.locals_token ≡ true
token_by m c b true true e h = let same : c ≡ b = cc h in subst (λ (k : BodyPart). is_locals_token m k.locals_token ≡ true) same e
token_by m c b true false e h = absurd (cc h)
token_by m c b false stands e h = absurd (cc h)

in_body : (m : MetadataPart) (rva : ℕ) (bytes : List ℕ) (b : BodyPart) → body_in m rva bytes ≡ Some b → is_locals_token m b.locals_token ≡ true
in_body m rva bytes b = by (body_at bytes)
  where
    by : (o : Option BodyPart) → on_some o (if_sound m rva bytes) ≡ Some b → is_locals_token m b.locals_token ≡ true
    by None h = absurd (cc h)
    by (Some c) h = token_by m c b (is_aligned rva bytes) (is_locals_token m c.locals_token) refl h

in_part : (x : FilePart) (rva : ℕ) (b : BodyPart) → body_part x rva ≡ Some b → is_locals_token x.metadata b.locals_token ≡ true
unfolding body_part
in_part x rva b = by (rva == 0)
  where
    there : (o : Option (List ℕ)) → on_some o (body_in x.metadata rva) ≡ Some b → is_locals_token x.metadata b.locals_token ≡ true
    there None h = absurd (cc h)
    there (Some bytes) h = in_body x.metadata rva bytes b h

    by : (none : Bool) → (if none then None else on_some (tail x.pe rva) (body_in x.metadata rva)) ≡ Some b → is_locals_token x.metadata b.locals_token ≡ true
    by true h = absurd (cc h)
    by false h = there (tail x.pe rva) h

pub body_token : (x : FilePart) (columns : List ℕ) (b : BodyPart) → body_of x columns ≡ Some b → is_locals_token x.metadata b.locals_token ≡ true
body_token x columns b = by (is_internal columns)
  where
    by : (none : Bool) → (if none then None else body_part x (slice_index columns 0)) ≡ Some b → is_locals_token x.metadata b.locals_token ≡ true
    by true h = absurd (cc h)
    by false h = in_part x (slice_index columns 0) b h
