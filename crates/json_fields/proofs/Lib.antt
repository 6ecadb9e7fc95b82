pub mod JsonViews
