use Rattle.std.proofs.Common.{◌++◌, map, ap, sym, ◌∙◌}
use Rattle.std.specs.Option.{option_map}
use Rattle.classes.specs.Listed.{this_before}
use Rattle.classes.specs.Queries.{place_of}
use Rattle.member_keys.specs.Seen.{signature_seen}
use Rattle.class_table.specs.Seen.{classes_seen}
use Rattle.method_facts.specs.Places.{place_to}
use Rattle.method_facts.proofs.method.method_places.Goals as goal

pub returns : goal.returns
returns c = record {
  row = c.in-Some.row.now;
  signature = signature_seen c.in-Some-signature.signature;
  row_is = sym c.in-Some.ensures;
  signed = ap (option_map signature_seen) c.in-Some-signature.is;
  arguments = c.in_ok-arguments.ensures ∙ ap (λ o. map place_to (this_before (classes_seen c.args.table.now) o (signature_seen c.in-Some-signature.signature) ++ map (place_of (classes_seen c.args.table.now)) (signature_seen c.in-Some-signature.signature).parameters)) c.in_ok-owner.ensures;
  result = c.in_ok-result.ensures;
}
