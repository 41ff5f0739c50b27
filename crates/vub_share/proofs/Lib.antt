pub mod OneRunOf
pub mod Decimals
pub mod Generated
pub mod GeneratorValid
