-- A body by the steps of its reading.
use Rattle.std.proofs.Common.{◌≡◌, ◌≢◌, ℕ, List, Option, Some, None, Ok, Err, refl, ap, ◌∙◌}
use Rattle.std.specs.Prelude.{if◌then◌else◌, ◌&&◌, ◌==◌}
use Rattle.std.specs.Option.{ok_or}
use Rattle.std.proofs.lemmas.Bool.{ne_eqb}
use Rattle.file_tables.specs.Pe.{PePart, tail}
use Rattle.file_tables.specs.Metadata.{MetadataPart}
use Rattle.machine.specs.Throw.{on_some}
use Rattle.cil_code.specs.declared.fault.CodeFault.{CodeFault}
use Rattle.cil_code.specs.Bodies.{BodyPart, body_at, body_of}
use Rattle.world_rows.specs.Lines.{body_part, body_in, is_aligned, is_locals_token, if_sound}
use Rattle.looked_rows.specs.Looked.{file_with}

of_some : {A : Type 0} (o : Option A) (fault : CodeFault) (x : A) → ok_or o fault ≡ Ok x → o ≡ Some x
of_some (Some y) fault x e = let same : y ≡ x = cc in ap Some same
of_some None fault x e = absurd cc

of_none : {A : Type 0} (o : Option A) (fault told : CodeFault) → ok_or o fault ≡ Err told → o ≡ None
of_none (Some y) fault told e = absurd cc
of_none None fault told e = refl

pub none_faulty : (m : MetadataPart) (rva : ℕ) (bytes : List ℕ) (fault : CodeFault) → body_of bytes ≡ Err fault → body_in m rva bytes ≡ None
unfolding body_of
none_faulty m rva bytes fault e = ap (λ o. on_some o (if_sound m rva bytes)) (of_none (body_at bytes) _ fault e)

pub one_read : (m : MetadataPart) (rva : ℕ) (bytes : List ℕ) (b : BodyPart) → body_of bytes ≡ Ok b → body_in m rva bytes ≡ (if is_aligned rva bytes && is_locals_token m b.locals_token then Some b else None)
unfolding body_of
one_read m rva bytes b e = ap (λ o. on_some o (if_sound m rva bytes)) (of_some (body_at bytes) _ b e)

module _ (pe : PePart) (m : MetadataPart) where
  pub no_address : (rva : ℕ) → rva ≡ 0 → body_part (file_with pe m) rva ≡ None
  unfolding body_part
  no_address rva e = ap (λ n. if n == 0 then None else on_some (tail pe n) (body_in m n)) e

  by_section : (rva : ℕ) → rva ≢ 0 → body_part (file_with pe m) rva ≡ on_some (tail pe rva) (body_in m rva)
  unfolding body_part
  by_section rva apart = ap (λ b. if b then None else on_some (tail pe rva) (body_in m rva)) (ne_eqb rva 0 apart)

  pub no_section : (rva : ℕ) → rva ≢ 0 → tail pe rva ≡ None → body_part (file_with pe m) rva ≡ None
  no_section rva apart e = by_section rva apart ∙ ap (λ o. on_some o (body_in m rva)) e

  pub in_section : (rva : ℕ) (bytes : List ℕ) → rva ≢ 0 → tail pe rva ≡ Some bytes → body_part (file_with pe m) rva ≡ body_in m rva bytes
  in_section rva bytes apart e = by_section rva apart ∙ ap (λ o. on_some o (body_in m rva)) e
