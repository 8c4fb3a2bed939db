use Rattle.std.proofs.Common.{length, map, ap, ◌∙◌, arith, subst}
use Rattle.type_names.specs.Files.{parts_of}
use Rattle.type_names.specs.Resolved.{AreResolved}
use Rattle.type_names.proofs.world.TypeNames.new.Goals as goal

pub resolve_files-requires : goal.resolve_files-requires
resolve_files-requires c = omega (arith, ap length c.deref.ensures.value, c.in-Ok.ensures.size, c.requires.few)

pub invariant_of-result : goal.invariant_of-result
invariant_of-result c = record {
  base = omega (arith, c.in-Ok.ensures.size, c.requires.base);
  few = omega (arith, c.in-Ok.ensures.size, c.requires.few);
  size = c.in-Ok-resolve_files.ensures.size ∙ ap length c.deref.ensures.value;
  resolved = subst (λ files. AreResolved (parts_of files) (map (λ types. types.items) c.in-Ok-resolve_files.references.items)) c.deref.ensures.value c.in-Ok-resolve_files.ensures.resolved;
}
