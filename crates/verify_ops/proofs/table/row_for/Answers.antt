use Rattle.std.proofs.lemmas.Int.{to_z-of_z}
use Rattle.std.proofs.Common.{⊎_elim}
use Rattle.cil_opcodes.specs.declared.shape.Shape.TheVariants as shape
use Rattle.verify_ops.proofs.Choices.{at_shape}
use Rattle.verify_ops.proofs.table.row_for.Goals as goal

pub returns-in-LoadArgument : goal.returns-in-LoadArgument
returns-in-LoadArgument c = let r = c.ranges.number in at_shape c.args.facts.now _ c.args.shape c.args.number _ c.in-LoadArgument.is (simp to_z-of_z at c.load_argument.ensures)

pub returns-in-LoadArgumentAddress : goal.returns-in-LoadArgumentAddress
returns-in-LoadArgumentAddress c = let r = c.ranges.number in at_shape c.args.facts.now _ c.args.shape c.args.number _ c.in-LoadArgumentAddress.is (simp to_z-of_z at c.load_argument_address.ensures)

pub returns-in-LoadLocal : goal.returns-in-LoadLocal
returns-in-LoadLocal c = let r = c.ranges.number in at_shape c.args.facts.now _ c.args.shape c.args.number _ c.in-LoadLocal.is (simp to_z-of_z at c.load_local.ensures)

pub returns-in-LoadLocalAddress : goal.returns-in-LoadLocalAddress
returns-in-LoadLocalAddress c = let r = c.ranges.number in at_shape c.args.facts.now _ c.args.shape c.args.number _ c.in-LoadLocalAddress.is (simp to_z-of_z at c.load_local_address.ensures)

pub returns-in-Call : goal.returns-in-Call
returns-in-Call c = at_shape c.args.facts.now _ c.args.shape c.args.number _ c.in-Call.is (c.call.ensures c.args.number)

pub returns-in-CallVirtual : goal.returns-in-CallVirtual
returns-in-CallVirtual c = at_shape c.args.facts.now _ c.args.shape c.args.number _ c.in-CallVirtual.is (c.call_virtual.ensures c.args.number)

pub returns-in-NewObject : goal.returns-in-NewObject
returns-in-NewObject c = at_shape c.args.facts.now _ c.args.shape c.args.number _ c.in-NewObject.is (c.new_object.ensures c.args.number)

pub returns-in-LoadIndirect : goal.returns-in-LoadIndirect
returns-in-LoadIndirect c = at_shape c.args.facts.now _ c.args.shape c.args.number _ c.in-LoadIndirect.is (c.load_indirect.ensures c.args.number)

pub returns-in-StoreIndirect : goal.returns-in-StoreIndirect
returns-in-StoreIndirect c = at_shape c.args.facts.now _ c.args.shape c.args.number _ c.in-StoreIndirect.is (c.store_indirect.ensures c.args.number)

pub returns-in-LoadString : goal.returns-in-LoadString
returns-in-LoadString c = at_shape c.args.facts.now _ c.args.shape c.args.number _ c.in-LoadString.is (c.load_text.ensures c.args.number)

pub returns-in-Box : goal.returns-in-Box
returns-in-Box c = at_shape c.args.facts.now _ c.args.shape c.args.number _ c.in-Box.is (c.boxed.ensures c.args.number)

pub returns-in-Unbox : goal.returns-in-Unbox
returns-in-Unbox c = at_shape c.args.facts.now _ c.args.shape c.args.number _ c.in-Unbox.is (c.unboxed.ensures c.args.number)

pub returns-in-UnboxAny : goal.returns-in-UnboxAny
returns-in-UnboxAny c = at_shape c.args.facts.now _ c.args.shape c.args.number _ c.in-UnboxAny.is (c.unboxed_any.ensures c.args.number)

pub returns-in-LoadField : goal.returns-in-LoadField
returns-in-LoadField c = at_shape c.args.facts.now _ c.args.shape c.args.number _ c.in-LoadField.is (c.load_field.ensures c.args.number)

pub returns-in-LoadFieldAddress : goal.returns-in-LoadFieldAddress
returns-in-LoadFieldAddress c = at_shape c.args.facts.now _ c.args.shape c.args.number _ c.in-LoadFieldAddress.is (c.load_field_address.ensures c.args.number)

pub returns-in-StoreField : goal.returns-in-StoreField
returns-in-StoreField c = at_shape c.args.facts.now _ c.args.shape c.args.number _ c.in-StoreField.is (c.store_field.ensures c.args.number)

pub returns-in-LoadStatic : goal.returns-in-LoadStatic
returns-in-LoadStatic c = at_shape c.args.facts.now _ c.args.shape c.args.number _ c.in-LoadStatic.is (c.load_static.ensures c.args.number)

pub returns-in-LoadStaticAddress : goal.returns-in-LoadStaticAddress
returns-in-LoadStaticAddress c = at_shape c.args.facts.now _ c.args.shape c.args.number _ c.in-LoadStaticAddress.is (c.load_static_address.ensures c.args.number)

pub returns-in-StoreStatic : goal.returns-in-StoreStatic
returns-in-StoreStatic c = at_shape c.args.facts.now _ c.args.shape c.args.number _ c.in-StoreStatic.is (c.store_static.ensures c.args.number)

pub returns-in-NewArray : goal.returns-in-NewArray
returns-in-NewArray c = at_shape c.args.facts.now _ c.args.shape c.args.number _ c.in-NewArray.is (c.new_array.ensures c.args.number)

pub returns-in-LoadElement : goal.returns-in-LoadElement
returns-in-LoadElement c = at_shape c.args.facts.now _ c.args.shape c.args.number _ c.in-LoadElement.is (c.load_element.ensures c.args.number)

pub returns-in-StoreElement : goal.returns-in-StoreElement
returns-in-StoreElement c = at_shape c.args.facts.now _ c.args.shape c.args.number _ c.in-StoreElement.is (c.store_element.ensures c.args.number)

pub returns-in-LoadElementAddress : goal.returns-in-LoadElementAddress
returns-in-LoadElementAddress c = at_shape c.args.facts.now _ c.args.shape c.args.number _ c.in-LoadElementAddress.is (c.load_element_address.ensures c.args.number)

pub returns-in-LoadToken : goal.returns-in-LoadToken
returns-in-LoadToken c = at_shape c.args.facts.now _ c.args.shape c.args.number _ c.in-LoadToken.is (c.load_token.ensures c.args.number)

pub returns-in-CastClass : goal.returns-in-CastClass
returns-in-CastClass c =
    ⊎_elim
    (λ e. at_shape c.args.facts.now shape.CastClass c.args.shape c.args.number _ e (c.cast.ensures.class c.args.number))
    (λ e. at_shape c.args.facts.now shape.IsInstance c.args.shape c.args.number _ e (c.cast.ensures.instance c.args.number))
    c.in-CastClass.is
