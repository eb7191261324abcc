-- The bytes that undo a row are in front of others.
use Rattle.std.proofs.Common.{◌≡◌, ℕ, Bool, List, ◌++◌, refl, sym, ◌∙◌, ap, subst, append_assoc}
use Rattle.binlog_columns.specs.TableColumns.{columns_of}
use Rattle.binlog_rows.specs.Images.{bitmap_of}
use Rattle.binlog_images.specs.StoredColumns.{Stored, stored_image}
use Rattle.binlog_images.specs.declared.stored_row.StoredRow.{StoredRow}
use Rattle.binlog_images.specs.NullBits.{nulls_of}
use Rattle.binlog_undo.specs.Completion.{completed_stored, null_flags, image_bytes}
use Rattle.binlog_undo.specs.NewImages.{HasColumns}
use Rattle.binlog_undo.specs.Outcomes.{IsPrepended}
use Rattle.binlog_undo.specs.declared.completion.NewImage.{NewImage}
use Rattle.binlog_undo.specs.declared.image_pair.ImagePair.{ImagePair}
use Rattle.binlog_undo.specs.declared.undoing.Undoing.{Undoing}
use Rattle.binlog_undo.specs.declared.undoing.Undoing.TheVariants.{Exchange, Complete}

pub exchanged_prepended : (undoing : Undoing) (row : StoredRow) (old mid new p q : List ℕ) → undoing ≡ Exchange → p ≡ row.before.now → q ≡ row.after.now → mid ≡ p ++ old
    → new ≡ q ++ mid → IsPrepended undoing row old new
exchanged_prepended undoing row old mid new p q is before after first second =
    subst (λ (u : Undoing). IsPrepended u row old new) (sym is) (record {
      others = record { before = row.after.now; after = row.before.now };
      undone = (refl, refl);
      bytes = second ∙ ap (λ (t : List ℕ). q ++ t) (first ∙ ap (λ (t : List ℕ). t ++ old) before) ∙ ap (λ (t : List ℕ). t ++ (row.before.now ++ old)) after
          ∙ sym (append_assoc row.after.now row.before.now old);
    })

pub completed_prepended : (images : ImagePair) (row : StoredRow) (old mid new p : List ℕ) (olds news : List Stored) (image : NewImage) → p ≡ row.before.now
    → olds ≡ stored_image (columns_of images.columns, bitmap_of images.before) row.before.now → news ≡ stored_image (columns_of images.columns, bitmap_of images.after) row.after.now
    → HasColumns (completed_stored olds news) image → mid ≡ p ++ old → new ≡ (nulls_of image.nulls.items ++ image.values.items) ++ mid
    → IsPrepended (Complete images) row old new
completed_prepended images row old mid new p olds news image before first second is behind all =
    let bytes : nulls_of image.nulls.items ++ image.values.items ≡ image_bytes (completed_stored olds news) =
    ap (λ (flags : List Bool). nulls_of flags ++ image.values.items) is.nulls ∙ ap (λ (v : List ℕ). nulls_of (null_flags (completed_stored olds news)) ++ v) is.values in
    record {
      others = record { before = nulls_of image.nulls.items ++ image.values.items; after = row.before.now };
      undone = record {
        before = bytes ∙ ap (λ (cs : List Stored). image_bytes (completed_stored cs news)) first
            ∙ ap (λ (cs : List Stored). image_bytes (completed_stored (stored_image (columns_of images.columns, bitmap_of images.before) row.before.now) cs)) second;
        after = refl;
      };
      bytes = all ∙ ap (λ (t : List ℕ). (nulls_of image.nulls.items ++ image.values.items) ++ t) (behind ∙ ap (λ (t : List ℕ). t ++ old) before)
          ∙ sym (append_assoc (nulls_of image.nulls.items ++ image.values.items) row.before.now old);
    }
