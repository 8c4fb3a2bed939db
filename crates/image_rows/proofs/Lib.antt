mod ScopeLaws
mod SelectLaws
mod WalkLaws
mod FieldLaws
mod InterfaceLaws
mod TypeLaws
mod WorldLaws
mod KeptLaws
