use Rattle.member_keys.specs.Seen.{type_seen}
use Rattle.signature_tests.specs.Fits.{admits}
use Rattle.signature_tests.proofs.FitLaws.{fits_place, fits_handle, fits_nowhere}
use Rattle.signature_tests.proofs.fits.admits_type.Goals as goal

pub returns-then-sig_fits : goal.returns-then-sig_fits
returns-then-sig_fits c =
    fits_place c.args.subject.now.world.now c.args.subject.now.setting.table.now c.requires.table (admits c.args.handles) (type_seen c.args.of) c.sig_fits.result c.sig_fits.ensures c.if-sig_fits.true

pub returns-then-admits : goal.returns-then-admits
returns-then-admits c =
    fits_handle c.args.subject.now.world.now c.args.subject.now.setting.table.now c.requires.table (admits c.args.handles) (type_seen c.args.of) c.sig_fits.result c.admits.result c.is_handle.result c.sig_fits.ensures c.if-sig_fits.false c.admits.ensures c.if-admits.true c.is_handle.ensures

pub returns-else-admits : goal.returns-else-admits
returns-else-admits c =
    fits_nowhere c.args.subject.now.world.now c.args.subject.now.setting.table.now c.requires.table (admits c.args.handles) (type_seen c.args.of) c.sig_fits.result c.admits.result c.sig_fits.ensures c.if-sig_fits.false c.admits.ensures c.if-admits.false
