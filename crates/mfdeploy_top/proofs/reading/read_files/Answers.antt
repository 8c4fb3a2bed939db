use Rattle.std.proofs.Common.{◌∙◌, ℕ, map, Some, Err, sym, ap, subst, arith}
use Rattle.std.proofs.lemmas.List.{length-map, length-take}
use Rattle.plain_types.specs.Counts.{Rose}
use Rattle.mf_types.specs.declared.store.FailedCall.TheVariants.{Read}
use Rattle.mfdeploy_top.proofs.JobLaws.{is_told, file_there}
use Rattle.mfdeploy_top.proofs.reading.read_files.Goals as goal

pub returns-in-Err-Failed-clause-unread : goal.returns-in-Err-Failed-clause-unread
returns-in-Err-Failed-clause-unread g c =
    let files = c.args.files.now in
    let k = c.loop-file.file-index in
    let fault = c.in-Err-Failed.ensures.fault (ap (λ e. Err e) c.in-Err-Failed.field-0-is) in
    is_told files _ _ _ _ c.unread_file.ensures
    (record {
      before = k;
      is_file = file_there files k c.file-item.result c.loop-file-test.true ∙ ap (λ z. Some z) (sym (c.as_str-in-Err-Failed.ensures ∙ c.file-item.is));
      bytes = map (λ bytes. bytes.items) c.loop-file.all.items;
      read = record {
        count = omega (arith, length-map c.loop-file.all.items (λ bytes. bytes.items), c.loop-file.invariant.count, length-take k files, c.loop-file-test.true);
        held = c.loop-file.invariant.held;
      };
      cause = subst (λ (n : ℕ). Rose n (g.S.Store.state c.read.new.self).faults) c.loop-file.invariant.faults fault.faults;
      call = fault.failed ∙ ap (λ z. Some (Read z)) (c.as_str.ensures ∙ sym c.as_str-in-Err-Failed.ensures);
    })
