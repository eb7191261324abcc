pub mod CompressedTexts
