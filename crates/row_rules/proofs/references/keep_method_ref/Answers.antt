use Rattle.std.proofs.Common.{[], ◌∷◌, subst, OnOk}
use Rattle.std.proofs.lemmas.Result.{on_ok_weaker}
use Rattle.file_tables.specs.declared.schema.Coded.TheVariants.{MemberRefParent}
use Rattle.kept_rules.specs.Row.{by_type, in_signature}
use Rattle.world_rows.specs.Tokens.{bytes_at, coded_type}
use Rattle.world_rows.specs.Signatures.{method_signature}
use Rattle.row_rules.specs.Links.{row_at, keeps_each, Adds}
use Rattle.row_rules.proofs.LinkLaws.{keeps_after}
use Rattle.row_rules.proofs.references.keep_method_ref.Goals as goal

pub returns : goal.returns
returns c =
    let m = c.args.tables.now in
    let f = c.args.place.file in
    let r = row_at c.args.place in
    on_ok_weaker c.keep_method.result
    (keeps_after r (by_type f (coded_type m MemberRefParent c.args.row.class) ∷ []) (in_signature f (method_signature m (bytes_at m c.args.row.signature))) c.args.rules.now c.keep_coded.new.rules c.keep_method.new.rules c.in_ok-keep_coded.ensures)
    (subst (λ b. OnOk c.keep_method.result (Adds (keeps_each r (in_signature f (method_signature m b))) c.keep_coded.new.rules c.keep_method.new.rules)) c.signature.ensures c.keep_method.ensures)
