use Rattle.std.proofs.Common.{◌≡◌, ◌+◌, ◌++◌, ◌∷◌, [], length, map, sym, ap, ◌∙◌, subst}
use Rattle.std.specs.Prelude.{slice_get}
use Rattle.std.proofs.lemmas.List.{length-map, map-append}
use Rattle.type_names.proofs.Resolving.{longer}
use Rattle.member_references.specs.Meant.{AreMeant}
use Rattle.member_references.proofs.RowLaws.{each_more}
use Rattle.member_references.proofs.read.read_references.Goals as goal

pub loop-file-preserved : goal.loop-file-preserved
loop-file-preserved c =
    let mean = AreMeant c.args.names.now in
    let pushed = c.in_ok-push.ensures.items in
    let added = c.in_ok-read_file.field-0 in
    let lists : map (λ v. v.items) c.push.new.self.items ≡ map (λ v. v.items) c.loop-file.files.items ++ added.items ∷ [] = ap (map (λ v. v.items)) pushed ∙ map-append (λ v. v.items) c.loop-file.files.items (added ∷ []) in
    let count : length (map (λ v. v.items) c.loop-file.files.items) ≡ c.loop-file.file = length-map c.loop-file.files.items (λ v. v.items) ∙ c.loop-file.invariant.size in
    record {
      size = ap length pushed ∙ longer c.loop-file.files.items added ∙ ap (λ k. k + 1) c.loop-file.invariant.size;
      each = λ file rs e. each_more mean (map (λ v. v.items) c.loop-file.files.items) added.items c.loop-file.invariant.each (subst (λ k. mean k added.items) (sym count) c.in_ok-read_file.ensures) file rs (ap (λ xs. slice_get xs file) (sym lists) ∙ e);
    }
