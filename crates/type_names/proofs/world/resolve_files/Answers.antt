use Rattle.std.proofs.Common.{◌≡◌, ◌+◌, ◌++◌, ◌∷◌, [], length, map, sym, ap, ◌∙◌, subst}
use Rattle.std.proofs.lemmas.List.{length-map, map-append}
use Rattle.assemblies.specs.Binding.{resolve_ref}
use Rattle.world_rows.specs.World.{rows_alone, size_of}
use Rattle.type_names.specs.Files.{parts_of}
use Rattle.type_names.specs.Resolved.{AreResolved}
use Rattle.type_names.proofs.Resolving.{resolved_more, longer}
use Rattle.type_names.proofs.world.resolve_files.Goals as goal

pub loop-n-preserved : goal.loop-n-preserved
loop-n-preserved c =
    let pushed = c.in_ok-push.ensures.items in
    let added = c.in_ok-resolve_references.field-0 in
    let lists : map (λ types. types.items) c.push.new.self.items ≡ map (λ types. types.items) c.loop-n.all.items ++ added.items ∷ [] = ap (map (λ types. types.items)) pushed ∙ map-append (λ types. types.items) c.loop-n.all.items (added ∷ []) in
    let count : length (map (λ types. types.items) c.loop-n.all.items) ≡ c.loop-n.n = length-map c.loop-n.all.items (λ types. types.items) ∙ c.loop-n.invariant.size in
    record {
      size = ap length pushed ∙ longer c.loop-n.all.items added ∙ ap (λ k. k + 1) c.loop-n.invariant.size;
      resolved =
          subst (λ all. AreResolved (parts_of c.args.files.now) all) (sym lists)
          (resolved_more (parts_of c.args.files.now) (map (λ types. types.items) c.loop-n.all.items) added.items c.loop-n.invariant.resolved
          (λ n. c.in_ok-resolve_references.ensures n ∙ ap (λ ps. resolve_ref (size_of (rows_alone ps)) (rows_alone ps) c.loop-n.n n) c.in_ok-names.ensures ∙ ap (λ f. resolve_ref (size_of (rows_alone (parts_of c.args.files.now))) (rows_alone (parts_of c.args.files.now)) f n) (sym count)));
    }
