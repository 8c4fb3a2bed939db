use Rattle.std.proofs.Common.{◌≡◌, Bool, true, false, List, ℕ, Some, refl, ap, ◌∙◌, sym, subst}
use Rattle.std.specs.Prelude.{IsSome}
use Rattle.std.specs.Str.{IsUtf8, is_utf8}
use Rattle.std.proofs.lemmas.Str.{IsUtf8-from_is_utf8}
use Rattle.machine.specs.Throw.{on_some}
use Rattle.image_form.specs.Form.{checked, name_text}
use Rattle.image_bytes.specs.Layout.{Image}
use Rattle.msspot_read.specs.Rows.{text_in}
use Rattle.tiny_rows.specs.Rows.{name_in}
use Rattle.tiny_rows.proofs.NameLaws.{text_there, text_named}
use Rattle.tiny_members.proofs.text.text.Goals as goal

-- a name of an image is UTF-8
is_name : (i : Image) (at : ℕ) (t : List ℕ) → IsSome (name_in i at) → Some t ≡ text_in i 0 at → IsUtf8 t
is_name i at t h e = IsUtf8-from_is_utf8 t (go (is_utf8 t) (subst (λ o. IsSome (on_some o name_text)) (sym e) h))
  where
    go : (b : Bool) → IsSome (checked b t) → b ≡ true
    go true h = refl
    go false h = absurd (cc h)

pub text-requires : goal.text-requires
text-requires c = text_there c.args.image.now c.args.at c.requires

pub unreachable-requires : goal.unreachable-requires
unreachable-requires c = c.in-Err.ensures.cases.0 (is_name c.args.image.now c.args.at c.text.result.now c.requires c.text.ensures)

pub returns : goal.returns
returns c = ap Some c.in-Ok.ensures.cases.0 ∙ text_named c.args.image.now c.args.at c.text.result.now c.requires c.text.ensures
