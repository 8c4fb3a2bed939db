use Rattle.std.proofs.Common.{◌≡◌, ◌+◌, ◌++◌, ◌∷◌, [], length, map, sym, ap, ◌∙◌, subst}
use Rattle.std.proofs.lemmas.List.{length-map, map-append}
use Rattle.type_names.proofs.Resolving.{longer}
use Rattle.class_table.specs.Outlines.{outlines_at, AreRead}
use Rattle.class_reading.proofs.FileLaws.{read_more}
use Rattle.class_reading.proofs.files.read_classes.Goals as goal

pub loop-file-preserved : goal.loop-file-preserved
loop-file-preserved c =
    let pushed = c.in_ok-push.ensures.items in
    let added = c.in_ok-read_file.field-0 in
    let all : map (λ rows. rows.items) c.push.new.self.items ≡ map (λ rows. rows.items) c.loop-file.all.items ++ added.items ∷ [] = ap (map (λ rows. rows.items)) pushed ∙ map-append (λ rows. rows.items) c.loop-file.all.items (added ∷ []) in
    let count : length (map (λ rows. rows.items) c.loop-file.all.items) ≡ c.loop-file.file = length-map c.loop-file.all.items (λ rows. rows.items) ∙ c.loop-file.invariant.size in
    record {
      size = ap length pushed ∙ longer c.loop-file.all.items added ∙ ap (λ k. k + 1) c.loop-file.invariant.size;
      read =
          subst (AreRead c.args.names.now) (sym all)
          (read_more c.args.names.now (map (λ rows. rows.items) c.loop-file.all.items) added.items c.loop-file.invariant.read
          (c.in_ok-read_file.ensures ∙ ap (λ fs. outlines_at fs c.loop-file.file) c.in_ok-kinds.ensures ∙ ap (outlines_at c.args.names.now) (sym count)));
    }
