-- A bucket of a store as it is seen.
use Rattle.run_model.specs.declared.bucket.Bucket.{Bucket}
use Rattle.run_model.specs.declared.bucket.Content.{Content}
use Rattle.run_model.specs.declared.bucket.Content.TheVariants as content
use Rattle.bucket_store.specs.declared.view.ContentView.{ContentView}
use Rattle.bucket_store.specs.declared.view.ContentView.TheVariants as view
use Rattle.bucket_store.specs.declared.view.View.{View}

-- what it holds
abbrev pub content_of : ContentView → Content
content_of (view.Bytes bytes) = content.Bytes bytes.now
content_of (view.Range file start len) = content.Range file start len
content_of view.Nothing = content.Nothing

abbrev pub bucket_of : View → Bucket
bucket_of v = record { kind = v.kind; content = content_of v.content; home = v.home }
