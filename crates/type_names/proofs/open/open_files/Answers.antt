use Rattle.std.proofs.Common.{◌≡◌, ◌+◌, ◌<◌, [], length, length-append, map, drop, refl, sym, ap, ◌∙◌, arith, Err, get_or}
use Rattle.std.proofs.lemmas.List.{length-map}
use Rattle.file_tables.specs.File.{file_of}
use Rattle.type_names.specs.declared.file.File.{File}
use Rattle.type_names.specs.Files.{parts_of}
use Rattle.type_names.specs.Opening.{opened_from}
use Rattle.type_names.proofs.IndexLaws.{stands_at}
use Rattle.type_names.proofs.Walks.{index_map}
use Rattle.type_names.proofs.Openings.{before, next_opened, next_broken}
use Rattle.type_names.proofs.open.open_files.Goals as goal

pub returns-in-Err-clause-opened : goal.returns-in-Err-clause-opened
returns-in-Err-clause-opened c =
    let read : c.as_slice.result.now ≡ get_or (map (λ bytes. bytes.items) c.args.files.now) c.loop-n.n [] = c.as_slice.ensures.value ∙ index_map (λ bytes. bytes.items) c.args.files.now c.loop-n.n c.index-files-n.result [] (stands_at c.args.files.now c.args.files.now c.loop-n.n c.index-files-n.result refl c.loop-n-test.true c.index-files-n.is) in
    let within : c.loop-n.n < length (map (λ bytes. bytes.items) c.args.files.now) = omega (arith, c.loop-n-test.true, length-map c.args.files.now (λ bytes. bytes.items)) in
    next_broken (map (λ bytes. bytes.items) c.args.files.now) c.loop-n.n within c.loop-n.opened.items c.in-Err.fault c.loop-n.invariant.opened (ap file_of (sym read) ∙ c.in-Err.ensures) ∙ ap Err (sym c.in_file.ensures)

pub loop-n-preserved : goal.loop-n-preserved
loop-n-preserved c =
    let read : c.as_slice.result.now ≡ get_or (map (λ bytes. bytes.items) c.args.files.now) c.loop-n.n [] = c.as_slice.ensures.value ∙ index_map (λ bytes. bytes.items) c.args.files.now c.loop-n.n c.index-files-n.result [] (stands_at c.args.files.now c.args.files.now c.loop-n.n c.index-files-n.result refl c.loop-n-test.true c.index-files-n.is) in
    let within : c.loop-n.n < length (map (λ bytes. bytes.items) c.args.files.now) = omega (arith, c.loop-n-test.true, length-map c.args.files.now (λ bytes. bytes.items)) in
    let pushed = c.in-Ok-push.ensures.items in
    record {
      size = omega (arith, length-append {A = File}, ap length pushed, c.loop-n.invariant.size);
      opened =
          next_opened (map (λ bytes. bytes.items) c.args.files.now) c.loop-n.n within c.loop-n.opened.items c.in-Ok.file c.loop-n.invariant.opened (ap file_of (sym read) ∙ c.in-Ok.ensures)
          ∙ ap (λ xs. before (parts_of xs) (opened_from (c.loop-n.n + 1) (drop (c.loop-n.n + 1) (map (λ bytes. bytes.items) c.args.files.now)))) (sym pushed);
    }
