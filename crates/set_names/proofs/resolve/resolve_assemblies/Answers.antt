use Rattle.std.proofs.Common.{◌≡◌, ◌+◌, length, sym, ap, ◌∙◌, subst, arith}
use Rattle.assemblies.specs.Binding.{assembly_of}
use Rattle.scope_walk.proofs.Lists.{longer}
use Rattle.set_names.specs.Names.{seen_all}
use Rattle.set_names.specs.Resolved.{count_at}
use Rattle.set_names.proofs.ResolveLaws.{StandSo, none_so, stand_more, all_found}
use Rattle.set_names.proofs.resolve.resolve_assemblies.Goals as goal

pub loop-n-init : goal.loop-n-init
loop-n-init c = record { size = ap length c.new-found.ensures.items; so = none_so (assembly_of (seen_all c.args.names.now) c.args.file) c.new-found.result.items }

pub loop-n-preserved : goal.loop-n-preserved
loop-n-preserved c =
    let pushed = c.in_ok-push.ensures.items in
    let thing = assembly_of (seen_all c.args.names.now) c.args.file in
    record {
      size = ap length pushed ∙ longer c.loop-n.found.items c.find_referenced.result ∙ ap (λ k. k + 1) c.loop-n.invariant.size;
      so =
          subst (λ xs. StandSo thing xs (c.loop-n.n + 1)) (sym pushed)
          (stand_more thing c.loop-n.found.items c.loop-n.n c.find_referenced.result c.loop-n.invariant.size c.find_referenced.ensures c.loop-n.invariant.so);
    }

pub returns : goal.returns
returns c =
    let ps = seen_all c.args.names.now in
    let size : length c.loop-n.found.items ≡ count_at ps c.args.file = omega (arith, c.loop-n.invariant.size, c.loop-n-test.false, c.loop-n.auto.n-end, c.count-n-end.ensures) in
    all_found ps c.args.file c.loop-n.found.items size (subst (StandSo (assembly_of ps c.args.file) c.loop-n.found.items) (sym c.loop-n.invariant.size) c.loop-n.invariant.so)
