use Rattle.std.proofs.Common.{◌≡◌, ℕ, ◌+◌, ◌<◌, ◌≤◌, List, get_or, [], ◌∷◌, sym, ◌∙◌, subst, arith}
use Rattle.std.specs.Prelude.{if◌then◌else◌}
use Rattle.file_tables.specs.Metadata.{MetadataPart, rows_of, row_count}
use Rattle.file_tables.specs.Pe.{PePart}
use Rattle.kept_marks.specs.Masks.{Masks, masks_of}
use Rattle.looked_rows.specs.Looked.{file_with}
use Rattle.world_rows.specs.Tokens.{methods}
use Rattle.row_numbers.specs.declared.table.Table.TheVariants as table
use Rattle.converted.specs.Bodies.{body_of, code_in}
use Rattle.image_codes.specs.declared.codes.Shrunk.{Shrunk}
use Rattle.image_codes.specs.Codes.{AllCanShrink, codes_of_kept, IsLeft}
use Rattle.image_codes.proofs.LeftLaws.{left_from, left_next, left_last, on_ok, if_err}
use Rattle.image_codes.proofs.codes.image_codes.Goals as goal

-- what is left at a row, where the sections are those of the file
next_left : (kept : Masks) (m : MetadataPart) (pe here : PePart) (token : ℕ → ℕ) (found : Shrunk) (n : ℕ) → here ≡ pe → n < row_count m methods → IsLeft token found (left_from kept (file_with pe m) n) (codes_of_kept kept (file_with pe m)) → IsLeft token found (if kept table.MethodDef n then code_in (body_of (file_with here m) (get_or (rows_of m methods) n [])) ∷ left_from kept (file_with pe m) (n + 1) else left_from kept (file_with pe m) (n + 1)) (codes_of_kept kept (file_with pe m))
next_left kept m pe here token found n same within left =
    subst (λ (p : PePart). IsLeft token found (if kept table.MethodDef n then code_in (body_of (file_with p m) (get_or (rows_of m methods) n [])) ∷ left_from kept (file_with pe m) (n + 1) else left_from kept (file_with pe m) (n + 1)) (codes_of_kept kept (file_with pe m))) (sym same)
    (subst (λ (rest : List (List ℕ)). IsLeft token found rest (codes_of_kept kept (file_with pe m))) (left_next kept (file_with pe m) n within) left)

last_left : (kept : Masks) (m : MetadataPart) (pe : PePart) (token : ℕ → ℕ) (found : Shrunk) (n : ℕ) → row_count m methods ≤ n → IsLeft token found (left_from kept (file_with pe m) n) (codes_of_kept kept (file_with pe m)) → IsLeft token found [] (codes_of_kept kept (file_with pe m))
last_left kept m pe token found n past left = subst (λ (rest : List (List ℕ)). IsLeft token found rest (codes_of_kept kept (file_with pe m))) (left_last kept (file_with pe m) n past) left

pub add_row-requires-clause-sound : goal.add_row-requires-clause-sound
add_row-requires-clause-sound g c = subst (λ (p : PePart). AllCanShrink (masks_of c.args.choice.now) (file_with p c.args.tables.now)) (sym c.loop-n.invariant.same) c.requires

pub loop-n-preserved : goal.loop-n-preserved
loop-n-preserved g c =
    let within : c.loop-n.n < row_count c.args.tables.now methods = omega (arith, c.loop-n-test.true, c.rows-n-end.ensures) in
    let left = next_left (masks_of c.args.choice.now) c.args.tables.now c.args.pe.now c.loop-n.sections (g.R.Renumber.numbered c.args.renumber.now) c.loop-n.found c.loop-n.n c.loop-n.invariant.same within c.loop-n.invariant.left in
    record { same = (c.in-Ok.ensures {u = tt}).same ∙ c.loop-n.invariant.same; left = (c.in-Ok.ensures {u = tt}).left _ _ left }

pub returns-in-Err-clause-past : goal.returns-in-Err-clause-past
returns-in-Err-clause-past g c =
    let within : c.loop-n.n < row_count c.args.tables.now methods = omega (arith, c.loop-n-test.true, c.rows-n-end.ensures) in
    let left = next_left (masks_of c.args.choice.now) c.args.tables.now c.args.pe.now c.loop-n.sections (g.R.Renumber.numbered c.args.renumber.now) c.loop-n.found c.loop-n.n c.loop-n.invariant.same within c.loop-n.invariant.left in
    λ f. (c.in-Err.ensures {u = tt}).past _ _ f left

pub returns-clause-few : goal.returns-clause-few
returns-clause-few g c =
    let past : row_count c.args.tables.now methods ≤ c.loop-n.n = omega (arith, c.loop-n-test.false, c.rows-n-end.ensures) in
    let left = last_left (masks_of c.args.choice.now) c.args.tables.now c.args.pe.now (g.R.Renumber.numbered c.args.renumber.now) c.loop-n.found c.loop-n.n past c.loop-n.invariant.left in
    on_ok c.finish.result _ _ (λ h f. h (g.R.Renumber.numbered c.args.renumber.now) _ f left) c.finish.ensures.few

pub returns-clause-past : goal.returns-clause-past
returns-clause-past g c =
    let past : row_count c.args.tables.now methods ≤ c.loop-n.n = omega (arith, c.loop-n-test.false, c.rows-n-end.ensures) in
    let left = last_left (masks_of c.args.choice.now) c.args.tables.now c.args.pe.now (g.R.Renumber.numbered c.args.renumber.now) c.loop-n.found c.loop-n.n past c.loop-n.invariant.left in
    if_err c.finish.result _ _ (λ e h f. h (g.R.Renumber.numbered c.args.renumber.now) _ f left) c.finish.ensures.past
