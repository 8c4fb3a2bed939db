use Rattle.std.proofs.Common.{◌≡◌, ◌+◌, ◌<◌, ◌≤◌, ◌++◌, ◌∷◌, [], ℕ, suc, length, get_or, List, Option, Some, sym, ap, ◌∙◌, arith}
use Rattle.std.specs.Prelude.{slice_get, slice_index}
use Rattle.std.specs.Option.{option_map_or}
use Rattle.std.proofs.lemmas.List.{append-nil}
use Rattle.std.proofs.lemmas.Option.{slice_get_past, slice_get-get_or}
use Rattle.file_tables.specs.Metadata.{column_of}
use Rattle.cil_rows.specs.declared.rows.MethodDefRow.{MethodDefRow}
use Rattle.world_rows.specs.Tokens.{methods, bytes_at}
use Rattle.class_table.specs.declared.rows.MethodRow.{MethodRow as MethodColumns}
use Rattle.msspot_write.specs.declared.parts.PartRow.{PartRow}
use Rattle.kept_marks.specs.Masks.{masks_of}
use Rattle.kept_bodies.specs.Kept.{row_at}
use Rattle.image_methods.specs.Methods.{signature_at, method_made, part_made}
use Rattle.image_methods.proofs.methods.MethodsMethodParts.push.Goals as goal

pub returns-in_default : goal.returns-in_default
returns-in_default c =
    let rows = c.args.self.now.rows.now in
    let m = c.args.self.now.tables.now in
    let made : Option MethodColumns → List PartRow = λ o. c.args.out.now.items ++ option_map_or (λ x. part_made c.args.first (method_made (masks_of c.args.self.now.choice.now) m x (signature_at m c.args.n) c.args.body.now) ∷ []) o [] in
    let past : length rows ≤ c.args.n = c.in_default.ensures.lookup.3 in
    sym (append-nil c.args.out.now.items) ∙ ap made (sym (slice_get_past rows c.args.n past))

pub returns : goal.returns
returns c =
    let rows = c.args.self.now.rows.now in
    let m = c.args.self.now.tables.now in
    let row = c.in-Some.row.now in
    let made : Option MethodColumns → List PartRow = λ o. c.args.out.now.items ++ option_map_or (λ x. part_made c.args.first (method_made (masks_of c.args.self.now.choice.now) m x (signature_at m c.args.n) c.args.body.now) ∷ []) o [] in
    let read : ℕ → List PartRow = λ at. c.args.out.now.items ++ part_made c.args.first (method_made (masks_of c.args.self.now.choice.now) m row (bytes_at m at) c.args.body.now) ∷ [] in
    let within : c.args.n < length rows = c.in-Some.ensures.lookup.3.0 in
    let is : row ≡ get_or rows c.args.n row = c.in-Some.ensures.lookup.1 in
    let there : slice_get rows c.args.n ≡ Some row = slice_get-get_or rows c.args.n row within ∙ ap (λ x. Some x) (sym is) in
    let next : c.args.n + 1 ≡ suc c.args.n = omega arith in
    let signature : c.read_row-columns.result.signature ≡ slice_index (row_at m c.args.n) 4 = ap (λ (r : MethodDefRow). r.signature) c.read_row-columns.ensures ∙ ap (λ i. column_of m methods i 4) next in
    c.in_ok-push.ensures.items
    ∙ ap (λ (p : PartRow). c.args.out.now.items ++ p ∷ []) (c.in_ok-part.ensures {u = tt})
    ∙ ap read signature
    ∙ ap made (sym there)
