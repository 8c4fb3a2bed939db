mod CutLaws
mod TokenLaws
mod SpellLaws
