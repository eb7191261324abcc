-- Laws of the definitions of this crate, by topic.
pub mod Announced
pub mod Chosen
pub mod GnoIntervals
pub mod LenEnc
pub mod LenEncTexts
pub mod Refusing
pub mod Repeated
pub mod RepeatedLoops
pub mod Signed
pub mod Sized
pub mod Tags
pub mod UntilLoops
pub mod Varlen
pub mod VarlenReading
pub mod VarlenWriting
pub mod Within
