-- The base library's classes of all exceptions and all elements; and a bound set as a whole.
use Rattle.std.proofs.Common.{◌≡◌, ℕ, List, map, None, refl, sym, ap, ◌∙◌}
use Rattle.std.specs.Option.{option_map}
use Rattle.board_ids.specs.Ids.{id_of}
use Rattle.set_binding.specs.declared.tables.FileBindings.{FileBindings}
use Rattle.board_types.specs.declared.board.Known.{Known}
use Rattle.board_types.specs.declared.board.Known.TheVariants as exception
use Rattle.plain_types.specs.declared.elem.Elem.{Elem}
use Rattle.plain_types.specs.declared.elem.Elem.TheVariants as elem
use Rattle.classes.specs.Classes.{Classes}
use Rattle.classes.specs.Queries as queries
use Rattle.assemblies.specs.Rows.{Assembly}
use Rattle.deploy_model.specs.Banks.{Image}
use Rattle.board_model.specs.Bound as model
use Rattle.set_binding.specs.Columns.{named_by}
use Rattle.bound_set.specs.Library.{known_in, basic_in, AreKnown, AreBasic}
use Rattle.bound_set.specs.Bound.{IsBound}
use Rattle.bound_set.specs.declared.library.KnownClasses.{KnownClasses}
use Rattle.bound_set.specs.declared.library.BasicRows.{BasicRows}

known_all : (cs : Classes) (k : KnownClasses) → AreKnown cs k → (which : Known) → known_in k which ≡ queries.known cs which
known_all cs k a exception.NullReference = a.null_reference
known_all cs k a exception.IndexOutOfRange = a.index_out_of_range
known_all cs k a exception.Overflow = a.overflow
known_all cs k a exception.Arithmetic = a.arithmetic
known_all cs k a exception.DivideByZero = a.divide_by_zero
known_all cs k a exception.InvalidCast = a.invalid_cast
known_all cs k a exception.ArrayTypeMismatch = a.array_type_mismatch
known_all cs k a exception.Argument = a.argument
known_all cs k a exception.ArgumentNull = a.argument_null
known_all cs k a exception.ArgumentOutOfRange = a.argument_out_of_range

basic_all : (cs : Classes) (b : BasicRows) → AreBasic cs b → (e : Elem) → basic_in b e ≡ queries.basic cs e
basic_all cs b a elem.Bool = a.boolean
basic_all cs b a elem.Char = a.char
basic_all cs b a elem.I1 = a.sbyte
basic_all cs b a elem.U1 = a.byte
basic_all cs b a elem.I2 = a.int16
basic_all cs b a elem.U2 = a.uint16
basic_all cs b a elem.I4 = a.int32
basic_all cs b a elem.U4 = a.uint32
basic_all cs b a elem.I8 = a.int64
basic_all cs b a elem.U8 = a.uint64
basic_all cs b a elem.String = a.string
basic_all cs b a elem.Object = a.object
basic_all cs b a elem.Void = refl
basic_all cs b a elem.Class = refl
basic_all cs b a elem.Value = refl

pub bound_of : (images : List Image) (ps : List Assembly) (places : List ℕ) (files : List FileBindings) (k : KnownClasses) (b : BasicRows) (cs : Classes) → model.set_rows images ≡ ps → cs ≡ model.bound_classes ps
    → places ≡ map (λ (x : Image). x.at) images → named_by files ≡ model.named ps → AreKnown cs k → AreBasic cs b → model.first_lacking ps ≡ None → model.first_circle ps ≡ None
    → IsBound images (record { places = places; named = named_by files; known = known_in k; basic = basic_in b; array = option_map id_of b.array })
bound_of images ps places files k b cs same classes at names known basic lacking circle =
    let own : cs ≡ model.bound_classes (model.set_rows images) = classes ∙ sym (ap model.bound_classes same) in
    record {
      places = at;
      named = names ∙ sym (ap model.named same);
      known = λ which. known_all cs k known which ∙ ap (λ (x : Classes). queries.known x which) own;
      basic = λ e. basic_all cs b basic e ∙ ap (λ (x : Classes). queries.basic x e) own;
      array = basic.array ∙ ap queries.array own;
      references = ap model.first_lacking same ∙ lacking;
      circles = ap model.first_circle same ∙ circle;
    }
