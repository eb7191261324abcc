-- What views of a document show.
use Rattle.std.specs.Prelude.{ℕ, List}
use Rattle.binary_json.specs.Values.{null, boolean, int16, uint16, int32, uint32, int64, uint64, double, string, opaque, Json, scalar, array, object, values, members as members_in}
use Rattle.binary_json.specs.Decoding.{entries_in, document_value}
use Rattle.binary_json.specs.declared.containers.Array.{Array}
use Rattle.binary_json.specs.declared.containers.Object.{Object}
use Rattle.binary_json.specs.declared.value.Value.{Value}
use Rattle.binary_json.specs.declared.value.Value.TheVariants as views
use Rattle.binary_json.specs.declared.document.Document.{Document}

-- The values of an array, in order.
abbrev pub elements : Array → List Json
elements a = values (entries_in a.container.kind a.container.bytes.now)

-- The keys and values of an object, in order.
abbrev pub members : Object → List (List ℕ × Json)
members o = members_in (entries_in o.container.kind o.container.bytes.now)

-- The value of a view.
abbrev pub json : Value → Json
json views.Null = scalar null
json (views.Bool b) = scalar (boolean b)
json (views.I16 n) = scalar (int16 n)
json (views.U16 n) = scalar (uint16 n)
json (views.I32 n) = scalar (int32 n)
json (views.U32 n) = scalar (uint32 n)
json (views.I64 n) = scalar (int64 n)
json (views.U64 n) = scalar (uint64 n)
json (views.F64 x) = scalar (double x.bits)
json (views.String s) = scalar (string s.now)
json (views.Opaque x) = scalar (opaque x.column x.bytes.now)
json (views.Array a) = array (entries_in a.container.kind a.container.bytes.now)
json (views.Object o) = object (entries_in o.container.kind o.container.bytes.now)

-- The value of a document.
abbrev pub document_json : Document → Json
document_json d = document_value d.bytes.now
