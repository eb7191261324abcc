-- Contents that fit their layouts are read back as they were written.
use Rattle.std.proofs.Common.{◌≡◌, ℕ, List, ◌++◌, Ok, sym, subst}
use Rattle.binlog_columns.specs.declared.layout.Layout.{Layout}
use Rattle.binlog_columns.specs.declared.layout.Layout.TheVariants.{Nothing, Number, Bits, Timestamp2, DateTime2, Time2, Decimal, Counted, Vector}
use Rattle.binlog_values.specs.Contents.{Content, content_in}

-- A content that can be written is its own normal form.
pub own_normal : (layout : Layout) (c : Content) → (content_in layout).Fits c → (content_in layout).normal c ≡ c
own_normal Nothing c fits = sym fits
own_normal (Number len) c fits = fits.0
own_normal (Bits count) c fits = fits.0
own_normal (Timestamp2 digits) c fits = fits.0
own_normal (DateTime2 digits) c fits = fits.0
own_normal (Time2 digits) c fits = fits.0
own_normal (Decimal precision scale) c fits = fits.0
own_normal (Counted prefix max) c fits = fits.0
own_normal (Vector prefix) c fits = fits.0

-- What is written for a content is read back as that content.
pub read_back : (layout : Layout) (c : Content) (r : List ℕ) → (content_in layout).Fits c → (content_in layout).reads ((content_in layout).written c ++ r) ≡ Ok (c, r)
read_back layout c r fits =
    let f = content_in layout in
    subst (λ (d : Content). f.reads (f.written c ++ r) ≡ Ok (d, r)) (own_normal layout c fits)
    (f.keeps.complete (f.written c ++ r) (f.normal c) r (f.writes c r fits tt))
